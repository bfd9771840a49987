-- A pass that holds no lock has nothing in hand.
use Rattle.std.proofs.Common.{◌≡◌, ◌≢◌, ◌⊎◌, inl, inr, ℕ, zero, suc, ◌<◌, Bool, true, false, true≢false, ◌==◌, ◌||◌, List, [], ◌∷◌, map, eq-eqb, eqb-true, ne_eqb, refl, sym, ap, ◌∙◌, arith}
use Rattle.std.specs.Prelude.{Some, is_some, nat_lt, slice_get, if◌then◌else◌}
use Rattle.std.specs.List.{list_any}
use Rattle.std.proofs.lemmas.Bool.Decides.{nat_tests}
use mathlib.Core.Logic.{dite}
use native.Mathlib.Decide.{ℕ_discrete}
use Rattle.at_value.specs.Widths.{objects}
use Rattle.at_types.specs.Tags.{times}
use Rattle.at_view.specs.declared.view.View.{View}
use Rattle.at_core.specs.declared.lock.Lock as lock
use Rattle.at_core.specs.declared.lock.Lock.TheVariants as locks
use Rattle.at_core.specs.declared.world.Pass.{Pass}
use Rattle.at_core.specs.Locks.{slot_of, holds}
use Rattle.at_core.specs.Passes.{view, hand}
use Rattle.at_core.specs.Reads.{slot_number, in_hand}
use Rattle.at_core.specs.Rule.{IsLock, weight}
use Rattle.at_core.proofs.Counts.{weight_same, times_cons}
use Rattle.at_core.proofs.HandLemmas.{not_among}

-- the lock of a slot of the table
pub record HasLock (k : ℕ) : Type 0 where
  pub l : lock.Lock
  pub is : IsLock l
  pub slot : slot_of l ≡ k

pub lock_at : (k : ℕ) → k < suc objects → HasLock k
lock_at zero lt = record { l = locks.Types; is = refl; slot = refl }
lock_at (suc o) lt = record { l = locks.Row o; is = (let yes : nat_lt o objects ≡ true = grind (arith, nat_tests, lt) in yes); slot = refl }

pub nothing_in_hand : {A : Type 0} (v : View) (hand : List (ℕ × A)) → ((k : ℕ) → 0 < times k (map slot_number hand) → k < suc objects)
    → ((l : lock.Lock) → IsLock l → is_some (in_hand (slot_of l) hand) ≡ holds l v) → ((l : lock.Lock) → holds l v ≡ false) → hand ≡ []
nothing_in_hand v [] within right free = refl
nothing_in_hand v (s ∷ ss) within right free =
    let first = weight_same s.0 in
    let c = times_cons s.0 s.0 (map slot_number ss) in
    let h = lock_at s.0 (within s.0 (omega arith)) in
    let here : is_some (in_hand s.0 (s ∷ ss)) ≡ true = ap (λ (b : Bool). is_some (if b then Some s.1 else in_hand s.0 ss)) (eq-eqb s.0 s.0 refl) in
    let none_here : is_some (in_hand s.0 (s ∷ ss)) ≡ false = ap (λ (k : ℕ). is_some (in_hand k (s ∷ ss))) (sym h.slot) ∙ (right h.l h.is ∙ free h.l) in
    absurd (true≢false (sym here ∙ none_here))

-- so it is with a pass
pub empty_hand : (p : Pass) → ((l : lock.Lock) → holds l (view p) ≡ false) → hand p ≡ []
empty_hand p free = nothing_in_hand (view p) (hand p) p.within p.right free

-- What is in hand by its numbers
module _ {A : Type 0} where
  pub any_in : (k : ℕ) (slots : List (ℕ × A)) → list_any (λ n. n == k) (map slot_number slots) ≡ is_some (in_hand k slots)
  any_in k [] = refl
  any_in k (s ∷ ss) = by_test (any_in k ss) (s.0 == k) refl
    where
      by_test : list_any (λ n. n == k) (map slot_number ss) ≡ is_some (in_hand k ss) → (b : Bool) → (s.0 == k) ≡ b → list_any (λ n. n == k) (map slot_number (s ∷ ss)) ≡ is_some (in_hand k (s ∷ ss))
      by_test others true is = ap (λ b. b || list_any (λ n. n == k) (map slot_number ss)) is ∙ sym (ap (λ (b : Bool). is_some (if b then Some s.1 else in_hand k ss)) (eq-eqb k s.0 (sym (eqb-true s.0 k is))))
      by_test others false is = ap (λ b. b || list_any (λ n. n == k) (map slot_number ss)) is ∙ (others ∙ sym (ap (λ (b : Bool). is_some (if b then Some s.1 else in_hand k ss)) (ne_eqb k s.0 (λ same. true≢false (sym (eq-eqb s.0 k (sym same)) ∙ is)))))

  pub front_in : (k : ℕ) (slots : List (ℕ × A)) → Some k ≡ slice_get (map slot_number slots) 0 → (0 < times k (map slot_number slots)) × (is_some (in_hand k slots) ≡ true)
  front_in k [] e = absurd (cc (e))
  front_in k (s ∷ ss) e =
      let same : k ≡ s.0 = cc (e) in
      let c = times_cons k s.0 (map slot_number ss) in
      let w = weight_same k in
      let here : weight (s.0 == k) ≡ weight (k == k) = ap (λ (n : ℕ). weight (n == k)) (sym same) in
      (omega arith, ap (λ (b : Bool). is_some (if b then Some s.1 else in_hand k ss)) (eq-eqb k s.0 same))

-- what a pass has in hand where it holds no row but one: the slot of the types, and that of this row
pub held_slots : (p : Pass) (o : ℕ) → ((r : ℕ) → r ≢ o → holds (locks.Row r) (view p) ≡ false) → (k : ℕ) → 0 < times k (map slot_number (hand p)) → (k ≡ 0) ⊎ (k ≡ suc o)
held_slots p o none zero there = inl refl
held_slots p o none (suc r) there = dite (ℕ_discrete r o)
    (λ (e : r ≡ o). inr (ap suc e))
    (λ (ne : r ≢ o).
    let is : IsLock (locks.Row r) = (let yes : nat_lt r objects ≡ true = (let lt = p.within (suc r) there in grind (arith, nat_tests, lt)) in yes) in
    let out : is_some (in_hand (suc r) (hand p)) ≡ false = p.right (locks.Row r) is ∙ none r ne in
    let times_none = not_among (suc r) (hand p) out in
    absurd (omega arith))
