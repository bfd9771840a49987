-- A pass holds no more locks than its sections name; and one that has nothing in hand holds none.
use Rattle.std.proofs.Common.{◌≡◌, ⊎_elim, ℕ, zero, suc, ◌*◌, ◌<◌, ◌≤◌, Bool, true, false, true≢false, ◌==◌, ◌&&◌, List, [], ◌∷◌, ◌++◌, map, length, Option, eqb-true, eq-eqb, refl, sym, ap, ◌∙◌, subst, arith, length-append}
use Rattle.std.proofs.lemmas.List.{length-map}
use Rattle.std.specs.Prelude.{Some, None, is_some, not, if◌then◌else◌}
use Rattle.std.specs.List.{list_all}
use Rattle.std.specs.Cmp.Derive.{both_true}
use Rattle.std.proofs.lemmas.Bool.{or_cases, or_left, or_right, and_parts}
use Rattle.at_types.specs.Tags.{times}
use Rattle.at_types.proofs.TagLemmas.{length-le_from_times}
use Rattle.at_view.specs.declared.view.View.{View}
use Rattle.at_core.specs.declared.lock.Lock as lock
use Rattle.at_core.specs.declared.note.Note.{Note}
use Rattle.at_core.specs.declared.world.Pass.{Pass}
use Rattle.at_core.specs.Locks.{slot_of, holds, HoldsNone}
use Rattle.at_core.specs.Passes.{notes, view, hand, slot_at}
use Rattle.at_core.specs.Reads.{in_hand, slot_number}
use Rattle.at_core.specs.Rule.{weight, Slot}
use Rattle.at_core.specs.Steps.{given}
use Rattle.at_core.proofs.Counts.{times_cons, times_append, weight_same}
use Rattle.at_core.proofs.HandLemmas.{not_among}
use Rattle.at_core.proofs.HandOf.{lock_at}
use Rattle.at_section.specs.Deeds.{word_of, names, is_blocked, wanting, Held}
use Rattle.at_section.specs.Sections.{types_lock, row_lock, locks_of}
use Rattle.at_section.specs.Surfaces.{named, IsReady, IsTaking}
use Rattle.at_section.proofs.Standing.{word_one, blocked_marked}

-- With nothing in hand

nothing_at : (p : Pass) (l : lock.Lock) (x : Slot) → hand p ≡ [] → slot_at p l ≡ Some x → ⊥
nothing_at p l x empty is = absurd (cc (sym (ap (in_hand (slot_of l)) empty) ∙ is))

pub none_held : (p : Pass) → IsReady p → hand p ≡ [] → HoldsNone (view p)
none_held p ready empty l = by_test (holds l (view p)) refl
  where
    by_test : (b : Bool) → holds l (view p) ≡ b → holds l (view p) ≡ false
    by_test true is = let v = ready.values l is in absurd (nothing_at p l (Some v.value) empty v.within)
    by_test false is = is

-- How many locks

few_types : (b : Bool) → length (types_lock b) ≤ 1
few_types true = omega arith
few_types false = omega arith

few_row : (o : Option ℕ) → length (row_lock o) ≤ 1
few_row None = omega arith
few_row (Some o) = omega arith

pub few_locks : (n : Note) → length (locks_of n) ≤ 3
few_locks n =
    let a = few_types n.types in
    let b = few_row n.a in
    let c = few_row n.b in
    let d = length-append (types_lock n.types) (row_lock n.a ++ row_lock n.b) in
    let e = length-append (row_lock n.a) (row_lock n.b) in
    omega arith

-- the slots of what sections name
abbrev slots_in : List Note → List ℕ
slots_in [] = []
slots_in (n ∷ ns) = map slot_of (locks_of n) ++ slots_in ns

few_slots : (ns : List Note) → length (slots_in ns) ≤ 3 * length ns
few_slots [] = omega arith
few_slots (n ∷ ns) =
    let a = few_slots ns in
    let b = few_locks n in
    let c = length-append (map slot_of (locks_of n)) (slots_in ns) in
    let d = length-map (locks_of n) slot_of in
    omega arith

slot_among : (ls : List lock.Lock) (l : lock.Lock) → names ls (word_of l) ≡ true → 0 < times (slot_of l) (map slot_of ls)
slot_among [] l e = absurd (true≢false (sym e))
slot_among (k ∷ ls) l e =
    let c = times_cons (slot_of l) (slot_of k) (map slot_of ls) in
    ⊎_elim
    (λ (here : (word_of k == word_of l) ≡ true).
    let w = weight_same (slot_of l) in
    let same : weight (slot_of k == slot_of l) ≡ weight (slot_of l == slot_of l) = ap (λ (x : lock.Lock). weight (slot_of x == slot_of l)) (word_one k l (eqb-true (word_of k) (word_of l) here)) in
    omega arith)
    (λ (there : names ls (word_of l) ≡ true). let r = slot_among ls l there in omega arith)
    (or_cases (word_of k == word_of l) (names ls (word_of l)) e)

slot_named : (ns : List Note) (l : lock.Lock) → named l ns ≡ true → 0 < times (slot_of l) (slots_in ns)
slot_named [] l e = absurd (true≢false (sym e))
slot_named (n ∷ ns) l e =
    let c = times_append (slot_of l) (map slot_of (locks_of n)) (slots_in ns) in
    ⊎_elim
    (λ (here : (n.active && names (locks_of n) (word_of l)) ≡ true). let r = slot_among (locks_of n) l (and_parts n.active (names (locks_of n) (word_of l)) here).1 in omega arith)
    (λ (there : named l ns ≡ true). let r = slot_named ns l there in omega arith)
    (or_cases (n.active && names (locks_of n) (word_of l)) (named l ns) e)

-- each slot in hand is one of these
each_named : (p : Pass) (ls : List lock.Lock) → IsTaking ls p → (k : ℕ) → times k (map slot_number (hand p)) ≤ times k (slots_in (notes p) ++ map slot_of ls)
each_named p ls t k = by_test (is_some (in_hand k (hand p))) refl
  where
    by_test : (b : Bool) → is_some (in_hand k (hand p)) ≡ b → times k (map slot_number (hand p)) ≤ times k (slots_in (notes p) ++ map slot_of ls)
    by_test false is = let none = not_among k (hand p) is in omega arith
    by_test true is = by_count (times k (map slot_number (hand p))) refl
      where
        by_count : (n : ℕ) → times k (map slot_number (hand p)) ≡ n → times k (map slot_number (hand p)) ≤ times k (slots_in (notes p) ++ map slot_of ls)
        by_count zero e = omega arith
        by_count (suc n) e =
            let lt = p.within k (omega arith) in
            let h = lock_at k lt in
            let held : holds h.l (view p) ≡ true = sym (p.right h.l h.is) ∙ (ap (λ (j : ℕ). is_some (in_hand j (hand p))) h.slot ∙ is) in
            let once = p.once k in
            let c = times_append k (slots_in (notes p)) (map slot_of ls) in
            ⊎_elim
            (λ (old : named h.l (notes p) ≡ true). let r : 0 < times k (slots_in (notes p)) = subst (λ (j : ℕ). 0 < times j (slots_in (notes p))) h.slot (slot_named (notes p) h.l old) in omega arith)
            (λ (new : names ls (word_of h.l) ≡ true). let r : 0 < times k (map slot_of ls) = subst (λ (j : ℕ). 0 < times j (map slot_of ls)) h.slot (slot_among ls h.l new) in omega arith)
            (or_cases (named h.l (notes p)) (names ls (word_of h.l)) (t.owed h.l held))

pub room_left : (p : Pass) (n : Note) → length (notes p) ≤ 20 → IsTaking (locks_of n) p → length (hand p) < 64
room_left p n few t =
    let le = length-le_from_times (map slot_number (hand p)) (slots_in (notes p) ++ map slot_of (locks_of n)) (each_named p (locks_of n) t) in
    let a = length-map (hand p) slot_number in
    let b = length-append (slots_in (notes p)) (map slot_of (locks_of n)) in
    let c = few_slots (notes p) in
    let d = few_locks n in
    let e = length-map (locks_of n) slot_of in
    omega arith

-- Blocked

pub blocked_given : (v w : View) (l : lock.Lock) → w ≡ given l v → is_blocked v ≡ true → is_blocked w ≡ true
blocked_given v w l e blocked = ap is_blocked e ∙ (blocked_marked v (given l v) _ refl ∙ blocked)

-- The first lock that isn't held

pub first_names : (ls : List lock.Lock) (before : Held) (l : lock.Lock) → wanting ls before ≡ Some l → (names ls (word_of l) ≡ true) × (before l ≡ false)
first_names [] before l e = absurd (cc (e))
first_names (k ∷ ls) before l e = by_test (first_names ls before l) (before k) refl
  where
    by_test : (wanting ls before ≡ Some l → (names ls (word_of l) ≡ true) × (before l ≡ false)) → (b : Bool) → before k ≡ b → (names (k ∷ ls) (word_of l) ≡ true) × (before l ≡ false)
    by_test others true is =
        let r = others (sym (ap (λ (b : Bool). if not b then Some k else wanting ls before) is) ∙ e) in
        (or_right (word_of k == word_of l) (names ls (word_of l)) r.0, r.1)
    by_test others false is =
        let same : k ≡ l = cc (sym (ap (λ (b : Bool). if not b then Some k else wanting ls before) is) ∙ e) in
        (or_left (word_of k == word_of l) (names ls (word_of l)) (eq-eqb (word_of k) (word_of l) (ap word_of same)), ap before (sym same) ∙ is)

-- where there is none, all are held
pub none_wanting : (ls : List lock.Lock) (before : Held) → wanting ls before ≡ None → list_all before ls ≡ true
none_wanting [] before e = refl
none_wanting (k ∷ ls) before e = by_test (none_wanting ls before) (before k) refl
  where
    by_test : (wanting ls before ≡ None → list_all before ls ≡ true) → (b : Bool) → before k ≡ b → list_all before (k ∷ ls) ≡ true
    by_test others true is = both_true is (others (sym (ap (λ (b : Bool). if not b then Some k else wanting ls before) is) ∙ e))
    by_test others false is = absurd (cc (sym (ap (λ (b : Bool). if not b then Some k else wanting ls before) is) ∙ e))
