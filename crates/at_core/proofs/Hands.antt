-- What the passes have in hand.
use Rattle.std.proofs.Common.{◌≡◌, ◌≢◌, ◌⊎◌, ℕ, zero, suc, ◌==◌, ◌&&◌, Bool, false, List, [], ◌∷◌, ◌++◌, length, set, eq-eqb, ne_eqb, refl, sym, ap, ◌∙◌, subst, ⊎_elim, inl, inr, arith}
use Rattle.std.specs.Prelude.{None, Option, is_some, if◌then◌else◌}
use mathlib.Core.Option.{some, some-injective, some-ne-none}
use mathlib.Core.Logic.{dite}
use native.Mathlib.Decide.{ℕ_discrete}
use lib.ListN.{get_elem?}
use Rattle.at_view.specs.declared.view.View.{View}
use Rattle.at_core.specs.declared.lock.Lock as lock
use Rattle.at_core.specs.Locks.{slot_of, holds}
use Rattle.at_core.specs.Rule.{Slot, IsLock}
use Rattle.at_core.specs.Runs.{Core, with_hand, without_hand, HandsAreRight}
use Rattle.at_core.proofs.Lists.{each_other}
use Rattle.at_core.proofs.LockLemmas.{lock_cases, slot_apart}

-- the hand of a pass that changes, at the slot that does
pub hand_here : (a : Core) (id : ℕ) (l : lock.Lock) (slot : Option Slot) → with_hand a id l slot id (slot_of l) ≡ slot
hand_here a id l slot = ap (λ (t : Bool × Bool). if t.0 && t.1 then slot else a.hands id (slot_of l)) (λ i. (eq-eqb id id refl i, eq-eqb (slot_of l) (slot_of l) refl i))

-- at another slot
pub hand_beside : (a : Core) (id : ℕ) (l k : lock.Lock) (slot : Option Slot) → k ≢ l → with_hand a id l slot id (slot_of k) ≡ a.hands id (slot_of k)
hand_beside a id l k slot ne = ap (λ (t : Bool). if (id == id) && t then slot else a.hands id (slot_of k)) (ne_eqb (slot_of k) (slot_of l) (slot_apart k l ne)) ∙ ap (λ (t : Bool). if t && false then slot else a.hands id (slot_of k)) (eq-eqb id id refl)

-- the hand of another pass
pub hand_else : (a : Core) (id j : ℕ) (l k : lock.Lock) (slot : Option Slot) → j ≢ id → with_hand a id l slot j (slot_of k) ≡ a.hands j (slot_of k)
hand_else a id j l k slot ne = ap (λ (t : Bool). if t && (slot_of k == slot_of l) then slot else a.hands j (slot_of k)) (ne_eqb j id ne)

-- hands are right where one has changed with its view
pub hands_changed : (a : Core) (id : ℕ) (v w : View) (l : lock.Lock) (slot : Option Slot) → HandsAreRight a → get_elem? a.table.views id ≡ some v → is_some slot ≡ holds l w → ((k : lock.Lock) → k ≢ l → holds k w ≡ holds k v)
    → (j : ℕ) (u : View) (k : lock.Lock) → get_elem? (set a.table.views id w) j ≡ some u → IsLock k → is_some (with_hand a id l slot j (slot_of k)) ≡ holds k u
hands_changed a id v w l slot right at here beside j u k e is =
    each_other (λ i x. is_some (with_hand a id l slot i (slot_of k)) ≡ holds k x) a.table.views id w
    (λ i x ne e'. ap is_some (hand_else a id i l k slot ne) ∙ right i x k e' is)
    (⊎_elim
    (λ (same : k ≡ l). subst (λ (m : lock.Lock). is_some (with_hand a id l slot id (slot_of m)) ≡ holds m w) (sym same) (ap is_some (hand_here a id l slot) ∙ here))
    (λ (ne : k ≢ l). ap is_some (hand_beside a id l k slot ne) ∙ (right id v k at is ∙ sym (beside k ne)))
    (lock_cases k l))
    j u e

-- or alone
pub hands_exchanged : (a : Core) (id : ℕ) (v : View) (l : lock.Lock) (slot : Option Slot) → HandsAreRight a → get_elem? a.table.views id ≡ some v → is_some slot ≡ holds l v
    → (j : ℕ) (u : View) (k : lock.Lock) → get_elem? a.table.views j ≡ some u → IsLock k → is_some (with_hand a id l slot j (slot_of k)) ≡ holds k u
hands_exchanged a id v l slot right at here j u k e is = dite (ℕ_discrete j id)
    (λ (mine : j ≡ id).
    let same : v ≡ u = some-injective v u (sym at ∙ (ap (get_elem? a.table.views) (sym mine) ∙ e)) in
    subst (λ (x : ℕ × View). is_some (with_hand a id l slot x.0 (slot_of k)) ≡ holds k x.1) (λ i. (sym mine i, same i))
    (⊎_elim
    (λ (is_l : k ≡ l). subst (λ (m : lock.Lock). is_some (with_hand a id l slot id (slot_of m)) ≡ holds m v) (sym is_l) (ap is_some (hand_here a id l slot) ∙ here))
    (λ (ne : k ≢ l). ap is_some (hand_beside a id l k slot ne) ∙ right id v k at is)
    (lock_cases k l)))
    (λ (ne : j ≢ id). ap is_some (hand_else a id j l k slot ne) ∙ right j u k e is)

-- what stands at an index of a list with one item more
pub at_end : {A : Type 0} (xs : List A) (y : A) (j : ℕ) (u : A) → get_elem? (xs ++ y ∷ []) j ≡ some u → ((j ≢ length xs) × (get_elem? xs j ≡ some u)) ⊎ ((j ≡ length xs) × (y ≡ u))
at_end [] y zero u e = inr (refl, some-injective y u e)
at_end [] y (suc j) u e = absurd (some-ne-none u (sym e))
at_end (x ∷ xs) y zero u e = inl ((λ z. omega arith), e)
at_end (x ∷ xs) y (suc j) u e = ⊎_elim
    (λ (t : (j ≢ length xs) × (get_elem? xs j ≡ some u)). inl ((λ z. t.0 (omega arith)), t.1))
    (λ (t : (j ≡ length xs) × (y ≡ u)). inr (ap suc t.0, t.1))
    (at_end xs y j u e)

pub without_here : (a : Core) (id k : ℕ) → without_hand a id id k ≡ None
without_here a id k = ap (λ (t : Bool). if t then None else a.hands id k) (eq-eqb id id refl)

pub without_else : (a : Core) (id j k : ℕ) → j ≢ id → without_hand a id j k ≡ a.hands j k
without_else a id j k ne = ap (λ (t : Bool). if t then None else a.hands j k) (ne_eqb j id ne)
