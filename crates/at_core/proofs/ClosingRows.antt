-- What a pass knows of rows while it reads them one after another.
use Rattle.std.proofs.Common.{ℕ, suc, ◌≡◌, ◌≢◌, ◌<◌, ◌≤◌, ◌+◌, ◌⊎◌, ⊎_elim, Bool, true, false, true≢false, List, [], ◌∷◌, length, map, ap, sym, subst, ◌∙◌, arith}
use Rattle.std.proofs.lemmas.List.{length-map}
use mathlib.Core.Logic.{dite}
use native.Mathlib.Decide.{ℕ_discrete}
use Rattle.at_value.specs.declared.limits.Limits.{Limits}
use Rattle.at_model.specs.History.{replay}
use Rattle.at_model.specs.World.{World, opening}
use Rattle.at_types.specs.Tags.{times}
use Rattle.at_view.specs.declared.view.View.{View}
use Rattle.at_core.specs.declared.lock.Lock as lock
use Rattle.at_core.specs.declared.lock.Lock.TheVariants as locks
use Rattle.at_core.specs.declared.world.Pass.{Pass}
use Rattle.at_core.specs.declared.world.TheConstants.{MOST_HELD}
use Rattle.at_core.specs.Closing.{now_of, IsStill, HasLoaded, IsBeside, HasRead, HasRow, HoldsOneRow}
use Rattle.at_core.specs.Heads.{shape_of, HasDictionary, IsWhole}
use Rattle.at_core.specs.HeadSteps.{NamesRow}
use Rattle.at_core.specs.Locks.{hold_of, holds, copy_at}
use Rattle.at_core.specs.Passes.{view, hand, slot_at}
use Rattle.at_core.specs.Plays.{RowsAreNamed}
use Rattle.at_core.specs.Reads.{slot_number}
use Rattle.at_core.specs.Rule.{BodyAgrees}
use Rattle.at_core.specs.Steps.{copied_heads, HoldsTypesAlone}
use Rattle.at_core.proofs.PassSteps.{same_then}
use Rattle.at_core.proofs.Closing.{still_longer, held_loaded, copy_loaded}
use Rattle.at_core.proofs.Counts.{times_cons, weight_same}
use Rattle.at_core.proofs.HandOf.{held_slots}

rows_apart : (o r : ℕ) → o ≢ r → locks.Row o ≢ locks.Row r
rows_apart o r ne e = ne (ap number e)
  where
    number : lock.Lock → ℕ
    number locks.Types = 0
    number (locks.Row k) = k

pub types_apart : (o : ℕ) → locks.Types ≢ locks.Row o
types_apart o e = true≢false (ap is_types e)
  where
    is_types : lock.Lock → Bool
    is_types locks.Types = true
    is_types (locks.Row k) = false

-- a row stays with its pass where the pass keeps its lock, its copies and its slot
row_stays : (limits : Limits) (p q : Pass) (o : ℕ) → IsStill (view p) (view q) → hold_of (locks.Row o) (view q) ≡ hold_of (locks.Row o) (view p) → copy_at o (view q).rows ≡ copy_at o (view p).rows
    → slot_at q (locks.Row o) ≡ slot_at p (locks.Row o) → HasRow (now_of limits (view p)) p o → HasRow (now_of limits (view q)) q o
row_stays limits p q o still hold copy slot h =
    let seen : (view q).history.seen ≡ (view p).history.seen = ap (λ y. y.seen) still.history in
    let heads : copied_heads (view q) o ≡ copied_heads (view p) o = ap (λ ws. ws.head) copy in
    record {
      held = ap (λ y. y.held) hold ∙ h.held;
      since = ap (λ y. y.since) hold ∙ (h.since ∙ sym seen);
      whole = subst IsWhole (sym heads) h.whole;
      body = h.body;
      slot = slot ∙ h.slot;
      agrees = subst (λ (w : World). BodyAgrees (shape_of (copied_heads (view q) o)) w o h.body) (ap (replay opening) (sym seen))
          (subst (λ (n : ℕ). BodyAgrees (shape_of n) (now_of limits (view p)) o h.body) (sym heads) h.agrees);
    }

pub row_loaded : (limits : Limits) (p q : Pass) (o : ℕ) → HasLoaded p q → HasRow (now_of limits (view p)) p o → HasRow (now_of limits (view q)) q o
row_loaded limits p q o a h = row_stays limits p q o a.still (held_loaded p q (locks.Row o) a) (copy_loaded p q o a) (a.slots (locks.Row o)) h

pub row_beside : (limits : Limits) (p q : Pass) (o r : ℕ) → o ≢ r → IsBeside p q r → HasRow (now_of limits (view p)) p o → HasRow (now_of limits (view q)) q o
row_beside limits p q o r ne a h =
    row_stays limits p q o a.still (a.others (locks.Row o) (rows_apart o r ne)) (a.copies o ne) (a.slots (locks.Row o) (rows_apart o r ne)) h

-- what was read in between

pub read_loaded : (p q : Pass) → HasLoaded p q → HasRead p q
read_loaded p q a = record { same = a.same; still = a.still; types = a.types; held = λ l. ap (λ y. y.held) (held_loaded p q l a); slot = a.slots locks.Types }

pub read_beside : (p q : Pass) (r : ℕ) → IsBeside p q r → holds (locks.Row r) (view p) ≡ false → holds (locks.Row r) (view q) ≡ false → HasRead p q
read_beside p q r a before after = record {
  same = a.same;
  still = a.still;
  types = a.types;
  held = held;
  slot = a.slots locks.Types (types_apart r);
}
  where
    held : (l : lock.Lock) → holds l (view q) ≡ holds l (view p)
    held locks.Types = ap (λ t. t.hold.held) a.types
    held (locks.Row o) = dite (ℕ_discrete o r)
        (λ (e : o ≡ r). subst (λ (k : ℕ). holds (locks.Row k) (view q) ≡ holds (locks.Row k) (view p)) (sym e) (after ∙ sym before))
        (λ (ne : o ≢ r). ap (λ y. y.held) (a.others (locks.Row o) (rows_apart o r ne)))

pub read_longer : (p q r : Pass) → HasRead p q → HasRead q r → HasRead p r
read_longer p q r a b = record {
  same = same_then p q r a.same b.same;
  still = still_longer (view p) (view q) (view r) a.still b.still;
  types = b.types ∙ a.types;
  held = λ l. b.held l ∙ a.held l;
  slot = b.slot ∙ a.slot;
}

-- a row that was taken is named as it was before
pub named_taken : (p q : Pass) (r : ℕ) → IsBeside p q r → holds (locks.Row r) (view p) ≡ false → holds (locks.Row r) (view q) ≡ true → RowsAreNamed (view q) → NamesRow (view p) r
    → HasDictionary (shape_of (copied_heads (view q) r))
named_taken p q r a out held named names =
    let o = names.0 in
    let ne : o ≢ r = λ e. true≢false (sym names.1 ∙ (ap (λ k. holds (locks.Row k) (view p)) e ∙ out)) in
    let same : copied_heads (view q) o ≡ copied_heads (view p) o = ap (λ ws. ws.head) (a.copies o ne) in
    named r held (
      o,
      ap (λ y. y.held) (a.others (locks.Row o) (rows_apart o r ne)) ∙ names.1,
      subst (λ (n : ℕ). HasDictionary (shape_of n)) (sym same) names.2,
      ap (λ n. (shape_of n).row) same ∙ names.3,
    )

-- How many slots are in hand

-- numbers that are each one of two, once each, are two at most
few : (a b : ℕ) (xs : List ℕ) → ((k : ℕ) → 0 < times k xs → (k ≡ a) ⊎ (k ≡ b)) → length xs ≤ times a xs + times b xs
few a b [] only = omega arith
few a b (x ∷ xs) only =
    let more : length xs ≤ times a xs + times b xs = few a b xs (λ k there. only k (let c = times_cons k x xs in omega arith)) in
    let self = times_cons x x xs in
    let one = weight_same x in
    let ca = times_cons a x xs in
    let cb = times_cons b x xs in
    ⊎_elim
    (λ (e : x ≡ a). let w : times a (x ∷ xs) ≡ suc (times a xs) = subst (λ (k : ℕ). times k (x ∷ xs) ≡ suc (times k xs)) e (omega arith) in omega arith)
    (λ (e : x ≡ b). let w : times b (x ∷ xs) ≡ suc (times b xs) = subst (λ (k : ℕ). times k (x ∷ xs) ≡ suc (times k xs)) e (omega arith) in omega arith)
    (only x (omega arith))

-- a pass that holds the lock of the types and that of a row has room for more
pub has_room : (p : Pass) (o : ℕ) → HoldsOneRow (view p) o → length (hand p) < MOST_HELD
has_room p o one =
    let a = p.once 0 in
    let b = p.once (suc o) in
    let all = few 0 (suc o) (map slot_number (hand p)) (λ k there. held_slots p o one.rows k there) in
    let long = length-map (hand p) slot_number in
    omega arith

-- Reading one object, from the take of its row to the give

pub no_row : (v : View) (o : ℕ) → HoldsTypesAlone v → HoldsOneRow v o
no_row v o only = record { types = only.types; rows = λ r _. only.rows r }

pub one_row : (p m n : Pass) (o : ℕ) → HoldsTypesAlone (view p) → IsBeside p m o → HasLoaded m n → HoldsOneRow (view n) o
one_row p m n o only a b = record {
  types = ap (λ y. y.held) (held_loaded m n locks.Types b) ∙ (ap (λ y. y.held) (a.others locks.Types (types_apart o)) ∙ only.types);
  rows = λ r ne. ap (λ y. y.held) (held_loaded m n (locks.Row r) b) ∙ (ap (λ y. y.held) (a.others (locks.Row r) (rows_apart r o ne)) ∙ only.rows r);
}

pub read_row : (p m n k q : Pass) (o : ℕ) → HoldsTypesAlone (view p) → IsBeside p m o → HasLoaded m n → HasRead n k → IsBeside k q o → holds (locks.Row o) (view q) ≡ false → HasRead p q
read_row p m n k q o only a b c d out = record {
  same = same_then p m q a.same (same_then m n q b.same (same_then n k q c.same d.same));
  still = still_longer (view p) (view m) (view q) a.still (still_longer (view m) (view n) (view q) b.still (still_longer (view n) (view k) (view q) c.still d.still));
  types = d.types ∙ (c.types ∙ (b.types ∙ a.types));
  held = held;
  slot = d.slots locks.Types (types_apart o) ∙ (c.slot ∙ (b.slots locks.Types ∙ a.slots locks.Types (types_apart o)));
}
  where
    other : (l : lock.Lock) → l ≢ locks.Row o → holds l (view q) ≡ holds l (view p)
    other l ne =
        ap (λ y. y.held) (d.others l ne) ∙ (c.held l ∙ (ap (λ y. y.held) (held_loaded m n l b) ∙ ap (λ y. y.held) (a.others l ne)))

    held : (l : lock.Lock) → holds l (view q) ≡ holds l (view p)
    held locks.Types = other locks.Types (types_apart o)
    held (locks.Row r) = dite (ℕ_discrete r o)
        (λ (e : r ≡ o). subst (λ (i : ℕ). holds (locks.Row i) (view q) ≡ holds (locks.Row i) (view p)) (sym e) (out ∙ sym (only.rows o)))
        (λ (ne : r ≢ o). other (locks.Row r) (rows_apart r o ne))

-- the pass holds what it held
pub still_alone : (p q : Pass) → HasRead p q → HoldsTypesAlone (view p) → HoldsTypesAlone (view q)
still_alone p q a only = record { types = a.held locks.Types ∙ only.types; rows = λ r. a.held (locks.Row r) ∙ only.rows r }
