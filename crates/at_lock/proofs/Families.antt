-- What a pass has while it splits or joins, and after.
use Rattle.std.proofs.Common.{◌≡◌, ◌≢◌, Box, Global, ℕ, ◌<◌, ◌≤◌, Bool, true, false, List, length, true≢false, refl, sym, ap, ◌∙◌, subst, arith}
use Rattle.std.specs.Prelude.{nat_lt, Some, unwrap_or, if◌then◌else◌}
use Rattle.std.proofs.lemmas.Bool.Decides.{nat_tests}
use mathlib.Core.List.{IsPrefix}
use Rattle.at_value.specs.declared.operation.Op as op
use Rattle.at_types.specs.declared.types.Types as types
use Rattle.at_types.specs.Tags.{times}
use Rattle.at_view.specs.declared.view.HistoryView.{HistoryView}
use Rattle.at_view.specs.declared.view.View.{View}
use Rattle.at_view.specs.Views.{longer}
use Rattle.at_core.specs.declared.lock.Lock as lock
use Rattle.at_core.specs.declared.lock.Lock.TheVariants as locks
use Rattle.at_core.specs.declared.stored.Stored.TheVariants as stored
use Rattle.at_core.specs.Locks.{holds}
use Rattle.at_core.specs.Plays.{Brought}
use Rattle.at_core.specs.Steps.{given, parted, child, merged, global_loaded, gone_online, gone_offline, next_number, HoldsTypesAlone, IsShut}
use Rattle.at_core.proofs.LockLemmas.{hold_taken, hold_beside, hold_given, hold_kept, holds_parted, holds_merged}
use Rattle.at_lock.specs.Holding.{IsRight}
use Rattle.at_core.proofs.Counts.{times_cons, weight_same}
use Rattle.at_core.proofs.QuietSteps.{holds_quiet, load_quiet, online_quiet, offline_quiet}
use Rattle.at_lock.specs.Waits.{IsTaken, waited}
use Rattle.at_core.specs.Locks.{HoldsNone}
use Rattle.at_lock.specs.Families.{HasComeOnline, HasSeenMore, ended}
use Rattle.at_lock.proofs.Waiting.{holds_waited, history_waited, who_waited}

types_apart : (o : ℕ) → locks.Row o ≢ locks.Types
types_apart o e = absurd (apart_types o e)
  where
    is_types : lock.Lock → Bool
    is_types locks.Types = true
    is_types (locks.Row p) = false

    apart_types : (o : ℕ) → locks.Row o ≡ locks.Types → ⊥
    apart_types o e = true≢false (sym (ap is_types e))

-- a pass that held no lock and took that of the types holds it alone
pub alone : (v held : View) → HoldsNone v → IsTaken locks.Types v held → HoldsTypesAlone held
alone v held none t =
    let w = waited locks.Types v t.holders in
    let e = t.last.after in
    record {
      types = ap (holds locks.Types) e ∙ ap (λ y. y.held) (hold_taken locks.Types w t.last.at);
      rows = λ o. ap (holds (locks.Row o)) e ∙ (ap (λ y. y.held) (hold_beside (locks.Row o) locks.Types w t.last.at (types_apart o)) ∙ (holds_waited (locks.Row o) locks.Types v t.holders ∙ none (locks.Row o)));
    }

pub alone_parted : (v : View) → HoldsTypesAlone v → HoldsTypesAlone (parted v)
alone_parted v h = record { types = holds_parted locks.Types v ∙ h.types; rows = λ o. holds_parted (locks.Row o) v ∙ h.rows o }

pub alone_merged : (v w : View) → HoldsTypesAlone v → HoldsTypesAlone (merged v w)
alone_merged v w h = record { types = holds_merged locks.Types v w ∙ h.types; rows = λ o. holds_merged (locks.Row o) v w ∙ h.rows o }

-- it has no head open
pub alone_shut : (v : View) → HoldsTypesAlone v → IsShut locks.Types v
alone_shut v h o held = absurd (true≢false (sym held ∙ h.rows o))

-- what a pass that held no lock and took one has open: nothing
pub taken_shut : (l : lock.Lock) (v w : View) → HoldsNone v → IsTaken l v w → IsShut l w
taken_shut locks.Types v w none t = alone_shut w (alone v w none t)
taken_shut (locks.Row o) v w none t = subst (IsShut (locks.Row o)) (sym t.last.after) t.last.took.head.0

-- and holds none once it gives it back
pub none_given : (v : View) → HoldsTypesAlone v → HoldsNone (given locks.Types v)
none_given v h locks.Types = ap (λ y. y.held) (hold_given locks.Types v)
none_given v h (locks.Row o) = ap (λ y. y.held) (hold_kept (locks.Row o) locks.Types v (types_apart o)) ∙ h.rows o

-- What it has seen

pub more_taken : (v held : View) → IsTaken locks.Types v held → HasSeenMore v held × (held.history.own ≡ v.history.own)
more_taken v held t =
    let w = waited locks.Types v t.holders in
    let e = t.last.after in
    let h = history_waited locks.Types v t.holders in (
      record {
        seen = subst (λ (y : List op.Op). IsPrefix v.history.seen y) (sym (ap (λ u. u.history.seen) e)) (subst (λ (y : HistoryView). IsPrefix y.seen t.last.at.history) h t.last.took.later);
        birth = ap (λ u. u.history.birth) e ∙ ap (λ y. y.birth) h;
        number = ap (λ u. u.who.number) e ∙ ap (λ y. y.number) (who_waited locks.Types v t.holders);
      },
      ap (λ u. u.history.own) e ∙ ap (λ y. y.own) h,
    )

longer_first : (xs ys : List op.Op) → length xs ≤ length (longer xs ys)
longer_first xs ys = by_test (nat_lt (length xs) (length ys)) refl
  where
    by_test : (t : Bool) → nat_lt (length xs) (length ys) ≡ t → length xs ≤ length (longer xs ys)
    by_test true e =
        let lt : length xs < length ys = grind (arith, nat_tests, e) in
        let is : length (longer xs ys) ≡ length ys = ap (λ (t : Bool). length (if t then ys else xs)) e in
        omega arith
    by_test false e =
        let is : length (longer xs ys) ≡ length xs = ap (λ (t : Bool). length (if t then ys else xs)) e in
        omega arith

longer_second : (xs ys : List op.Op) → length ys ≤ length (longer xs ys)
longer_second xs ys = by_test (nat_lt (length xs) (length ys)) refl
  where
    by_test : (t : Bool) → nat_lt (length xs) (length ys) ≡ t → length ys ≤ length (longer xs ys)
    by_test true e =
        let is : length (longer xs ys) ≡ length ys = ap (λ (t : Bool). length (if t then ys else xs)) e in
        omega arith
    by_test false e =
        let le : length ys ≤ length xs = grind (arith, nat_tests, e) in
        let is : length (longer xs ys) ≡ length xs = ap (λ (t : Bool). length (if t then ys else xs)) e in
        omega arith

-- what either of two passes had seen begins what the one that took in the other has
pub first_seen : (v other : View) → Brought (merged v other) → IsPrefix v.history.seen (merged v other).history.seen
first_seen v other b = b.first (longer_first v.history.seen other.history.seen)

pub second_seen : (v other : View) → Brought (merged v other) → IsPrefix other.history.seen (merged v other).history.seen
second_seen v other b = b.second (longer_second v.history.seen other.history.seen)

-- the free numbers of the types
pub numbers_of : (v : View) (box : Box types.Types Global) → IsRight v locks.Types (stored.Types box) → box.value.numbers ≡ v.types.lists.numbers
numbers_of v box right = let same : box ≡ right.0 = cc (right.1) in ap (λ (b : Box types.Types Global). b.value.numbers) same ∙ right.2.numbers

-- the new pass has the least free number
pub least_number : (v new : View) (number : ℕ) → next_number v.types.lists.numbers ≡ Some number → HasComeOnline (child v) new → next_number v.types.lists.numbers ≡ Some new.who.number
least_number v new number free is = free ∙ ap (λ (n : ℕ). Some n) (sym (ap (λ w. w.who.number) is.after ∙ ap (λ o. unwrap_or o 0) free))

-- coming online takes no lock
pub online_free : (v w : View) (l : lock.Lock) → HasComeOnline v w → holds l w ≡ holds l v
online_free v w l c = ap (holds l) c.after ∙ (holds_quiet (global_loaded v c.global) (gone_online (global_loaded v c.global)) (online_quiet (global_loaded v c.global)) l ∙ holds_quiet v (global_loaded v c.global) (load_quiet v c.global) l)

-- Children

-- the new pass is a child
pub child_among : (v : View) → 0 < times v.types.lists.next_birth (parted v).who.children
child_among v = let c = times_cons v.types.lists.next_birth v.types.lists.next_birth v.who.children in let one = weight_same v.types.lists.next_birth in omega arith

pub same_children : (v held : View) → IsTaken locks.Types v held → held.who.children ≡ v.who.children
same_children v held t = ap (λ u. u.who.children) t.last.after ∙ ap (λ y. y.children) (who_waited locks.Types v t.holders)

-- those of before are still there
pub more_children : (v held : View) (b : ℕ) → IsTaken locks.Types v held → times b v.who.children ≤ times b (parted held).who.children
more_children v held b t =
    let c = times_cons b held.types.lists.next_birth held.who.children in
    let e : times b held.who.children ≡ times b v.who.children = ap (times b) (same_children v held t) in
    omega arith

-- A pass that ends

by_online : (P : View → Type 0) (v : View) → (v.tags.online ≡ true → P (gone_offline v)) → (v.tags.online ≡ false → P v) → P (ended v)
by_online P v on off = by_test v.tags.online refl
  where
    by_test : (t : Bool) → v.tags.online ≡ t → P (ended v)
    by_test true e = subst (λ (b : Bool). P (if b then gone_offline v else v)) (sym e) (on e)
    by_test false e = subst (λ (b : Bool). P (if b then gone_offline v else v)) (sym e) (off e)

pub ended_history : (v w : View) → w ≡ ended v → w.history ≡ v.history
ended_history v w e = ap (λ u. u.history) e ∙ by_online (λ u. u.history ≡ v.history) v (λ _. refl) (λ _. refl)

pub ended_write : (v w : View) → w ≡ ended v → w.write ≡ v.write
ended_write v w e = ap (λ u. u.write) e ∙ by_online (λ u. u.write ≡ v.write) v (λ _. refl) (λ _. refl)

pub ended_offline : (v w : View) → w ≡ ended v → w.tags.online ≡ false
ended_offline v w e = ap (λ u. u.tags.online) e ∙ by_online (λ u. u.tags.online ≡ false) v (λ _. refl) (λ off. off)

pub ended_holds : (v w : View) (l : lock.Lock) → w ≡ ended v → holds l w ≡ holds l v
ended_holds v w l e = ap (holds l) e ∙ by_online (λ u. holds l u ≡ holds l v) v (λ _. holds_quiet v (gone_offline v) (offline_quiet v) l) (λ _. refl)
