-- What a pass has in hand, by the numbers of slots.
use Rattle.std.proofs.Common.{◌≡◌, ◌≢◌, ℕ, suc, ◌+◌, ◌<◌, ◌≤◌, ◌==◌, Bool, true, false, true≢false, List, [], ◌∷◌, ◌++◌, length, cond, not, map, get_or, take, drop, take-append-drop, append_assoc, eq-eqb, ne_eqb, refl, sym, ap, ◌∙◌, subst, ⊎_elim, arith}
use Rattle.std.specs.Prelude.{Option, Some, None, is_some, nat_lt, position, if◌then◌else◌}
use Rattle.std.specs.List.{position_or_len}
use Rattle.std.proofs.lemmas.Bool.{eqb-true, lt-ltb}
use Rattle.std.proofs.lemmas.List.{drop_more, take_more, take-map, drop-map, length-map, map-append}
use Rattle.std.proofs.lemmas.Option.{none-some, same_Some, cond_some}
use mathlib.Core.Logic.{dite}
use native.Mathlib.Decide.{ℕ_discrete}
use Rattle.atomic_table.specs.Table.{Me, turned}
use Rattle.at_value.specs.Widths.{objects}
use Rattle.at_model.specs.World.{World}
use Rattle.at_types.specs.Tags.{times}
use Rattle.at_view.specs.declared.mark.Mark.{Mark}
use Rattle.at_view.specs.declared.view.View.{View}
use Rattle.at_core.specs.declared.lock.Lock as lock
use Rattle.at_core.specs.declared.lock.Lock.TheVariants as locks
use Rattle.at_core.specs.declared.stored.Stored.{Stored}
use Rattle.at_core.specs.Locks.{slot_of, holds, HoldsNone}
use Rattle.at_core.specs.Reads.{slot_number, in_hand}
use Rattle.at_core.specs.Rule.{Slot, IsLock, weight}
use Rattle.at_core.specs.Plays.{RowSays, Took}
use Rattle.at_core.specs.Steps.{Moment, marked, taken, given, ValueAgrees, IsShut, MayGive}
use Rattle.at_core.proofs.Counts.{times_cons, times_append, weight_same, weight_other, at_most_one}
use Rattle.at_core.proofs.LockLemmas.{lock_cases, slot_apart, hold_marked, hold_taken, hold_beside, hold_given, hold_kept}

module _ {A : Type 0} where
  abbrev pub numbers : List (ℕ × A) → List ℕ
  numbers slots = map slot_number slots

  -- no slot twice
  abbrev pub AreOnce : List (ℕ × A) → Type 0
  AreOnce slots = (k : ℕ) → times k (numbers slots) ≤ 1

  -- each slot is one of the table's
  abbrev pub AreWithin : List (ℕ × A) → Type 0
  AreWithin slots = (k : ℕ) → 0 < times k (numbers slots) → k < suc objects

  pub within_more : (n : ℕ) (x : A) (slots : List (ℕ × A)) → AreWithin slots → n < suc objects → AreWithin ((n, x) ∷ slots)
  within_more n x slots within lt k h = dite (ℕ_discrete n k)
      (λ (is : n ≡ k). omega arith)
      (λ (ne : n ≢ k).
      let o = weight_other n k ne in
      let c = times_cons k n (numbers slots) in
      within k (omega arith))

  pub within_others : (slot : ℕ × A) (others : List (ℕ × A)) → AreWithin (slot ∷ others) → AreWithin others
  within_others slot others within k h = let c = times_cons k slot.0 (numbers others) in within k (omega arith)

  pub in_front : (k : ℕ) (x : A) (slots : List (ℕ × A)) → in_hand k ((k, x) ∷ slots) ≡ Some x
  in_front k x slots = ap (λ (t : Bool). if t then Some x else in_hand k slots) (eq-eqb k k refl)

  pub in_others : (k n : ℕ) (x : A) (slots : List (ℕ × A)) → k ≢ n → in_hand k ((n, x) ∷ slots) ≡ in_hand k slots
  in_others k n x slots ne = ap (λ (t : Bool). if t then Some x else in_hand k slots) (ne_eqb k n ne)

  -- a slot that isn't in hand
  pub not_among : (k : ℕ) (slots : List (ℕ × A)) → is_some (in_hand k slots) ≡ false → times k (numbers slots) ≡ 0
  not_among k [] out = refl
  not_among k (slot ∷ slots) out = dite (ℕ_discrete k slot.0)
      (λ (is : k ≡ slot.0). absurd (true≢false (ap is_some (sym (subst (λ (n : ℕ). in_hand n (slot ∷ slots) ≡ Some slot.1) (sym is) (in_front slot.0 slot.1 slots))) ∙ out)))
      (λ (ne : k ≢ slot.0).
      let r = not_among k slots (ap is_some (sym (in_others k slot.0 slot.1 slots ne)) ∙ out) in
      let o = weight_other slot.0 k (λ e. ne (sym e)) in
      let c = times_cons k slot.0 (numbers slots) in
      omega arith)

  pub once_more : (n : ℕ) (x : A) (slots : List (ℕ × A)) → AreOnce slots → times n (numbers slots) ≡ 0 → AreOnce ((n, x) ∷ slots)
  once_more n x slots once none k = dite (ℕ_discrete n k)
      (λ (is : n ≡ k).
      let m = at_most_one (n == k) in
      let z : times k (numbers slots) ≡ 0 = subst (λ (j : ℕ). times j (numbers slots) ≡ 0) is none in
      let c = times_cons k n (numbers slots) in
      omega arith)
      (λ (ne : n ≢ k).
      let o = weight_other n k ne in
      let r = once k in
      let c = times_cons k n (numbers slots) in
      omega arith)

-- A pass and its hand

-- exactly the slots of the locks that the view holds
abbrev pub IsRight : Me Slot View → Type 0
IsRight me = (l : lock.Lock) → IsLock l → is_some (in_hand (slot_of l) me.1) ≡ holds l me.0

pub right_marked : (v : View) (m : Mark) (slots : List (ℕ × Slot)) → IsRight (v, slots) → IsRight (marked v m, slots)
right_marked v m slots right l is = right l is ∙ sym (ap (λ h. h.held) (hold_marked l v m))

pub right_taken : (l : lock.Lock) (v : View) (at : Moment) (x : Slot) (slots : List (ℕ × Slot)) → IsRight (v, slots) → IsRight (taken l v at, (slot_of l, x) ∷ slots)
right_taken l v at x slots right k is = ⊎_elim
    (λ (same : k ≡ l). subst (λ (j : lock.Lock). is_some (in_hand (slot_of j) ((slot_of l, x) ∷ slots)) ≡ holds j (taken l v at)) (sym same)
    (ap is_some (in_front (slot_of l) x slots) ∙ sym (ap (λ h. h.held) (hold_taken l v at))))
    (λ (ne : k ≢ l). ap is_some (in_others (slot_of k) (slot_of l) x slots (slot_apart k l ne)) ∙ (right k is ∙ sym (ap (λ h. h.held) (hold_beside k l v at ne))))
    (lock_cases k l)

-- A slot that is brought to the front

module _ {A : Type 0} where
  -- in hand by either part
  in_first : (k : ℕ) (slots others : List (ℕ × A)) (x : A) → in_hand k slots ≡ Some x → in_hand k (slots ++ others) ≡ Some x
  in_first k [] others x e = absurd (none-some x e)
  in_first k (slot ∷ slots) others x e = dite (ℕ_discrete k slot.0)
      (λ (is : k ≡ slot.0). subst (λ (n : ℕ). in_hand n (slot ∷ slots) ≡ Some x → in_hand n (slot ∷ slots ++ others) ≡ Some x) (sym is)
      (λ h. in_front slot.0 slot.1 (slots ++ others) ∙ (sym (in_front slot.0 slot.1 slots) ∙ h)) e)
      (λ (ne : k ≢ slot.0). in_others k slot.0 slot.1 (slots ++ others) ne ∙ in_first k slots others x (sym (in_others k slot.0 slot.1 slots ne) ∙ e))

  in_second : (k : ℕ) (slots others : List (ℕ × A)) → in_hand k slots ≡ None → in_hand k (slots ++ others) ≡ in_hand k others
  in_second k [] others e = refl
  in_second k (slot ∷ slots) others e = dite (ℕ_discrete k slot.0)
      (λ (is : k ≡ slot.0). absurd (none-some slot.1 (sym e ∙ subst (λ (n : ℕ). in_hand n (slot ∷ slots) ≡ Some slot.1) (sym is) (in_front slot.0 slot.1 slots))))
      (λ (ne : k ≢ slot.0). in_others k slot.0 slot.1 (slots ++ others) ne ∙ in_second k slots others (sym (in_others k slot.0 slot.1 slots ne) ∙ e))

  among : (k : ℕ) (slots : List (ℕ × A)) (x : A) → in_hand k slots ≡ Some x → 0 < times k (numbers slots)
  among k [] x e = absurd (none-some x e)
  among k (slot ∷ slots) x e = dite (ℕ_discrete k slot.0)
      (λ (is : k ≡ slot.0).
      let o : weight (slot.0 == k) ≡ 1 = subst (λ (n : ℕ). weight (slot.0 == n) ≡ 1) (sym is) (weight_same slot.0) in
      let c = times_cons k slot.0 (numbers slots) in
      omega arith)
      (λ (ne : k ≢ slot.0).
      let r = among k slots x (sym (in_others k slot.0 slot.1 slots ne) ∙ e) in
      let c = times_cons k slot.0 (numbers slots) in
      omega arith)

  times_of_both : (k : ℕ) (slots others : List (ℕ × A)) → times k (numbers (slots ++ others)) ≡ times k (numbers slots) + times k (numbers others)
  times_of_both k slots others = ap (times k) (map-append slot_number slots others) ∙ times_append k (numbers slots) (numbers others)

  -- the order of the two parts changes nothing
  either_order : (slots others : List (ℕ × A)) → AreOnce (slots ++ others) → (k : ℕ) → in_hand k (others ++ slots) ≡ in_hand k (slots ++ others)
  either_order slots others once k = by_parts (in_hand k slots) (in_hand k others) refl refl
    where
      by_parts : (a b : Option A) → in_hand k slots ≡ a → in_hand k others ≡ b → in_hand k (others ++ slots) ≡ in_hand k (slots ++ others)
      by_parts None None e e' = in_second k others slots e' ∙ (e ∙ sym (in_second k slots others e ∙ e'))
      by_parts None (Some y) e e' = in_first k others slots y e' ∙ sym (in_second k slots others e ∙ e')
      by_parts (Some x) None e e' = in_second k others slots e' ∙ (e ∙ sym (in_first k slots others x e))
      by_parts (Some x) (Some y) e e' =
          let a = among k slots x e in
          let b = among k others y e' in
          let t = times_of_both k slots others in
          let o = once k in
          absurd (omega arith)

  once_either : (slots others : List (ℕ × A)) → AreOnce (slots ++ others) → AreOnce (others ++ slots)
  once_either slots others once k =
      let t = times_of_both k slots others in
      let u = times_of_both k others slots in
      let o = once k in
      omega arith

  -- the first n behind the others
  abbrev pub rotated : ℕ → List (ℕ × A) → List (ℕ × A)
  rotated n slots = drop n slots ++ take n slots

  once_parted : (n : ℕ) (slots : List (ℕ × A)) → AreOnce slots → AreOnce (take n slots ++ drop n slots)
  once_parted n slots once = subst AreOnce (sym (take-append-drop n slots)) once

  pub rotated_once : (n : ℕ) (slots : List (ℕ × A)) → AreOnce slots → AreOnce (rotated n slots)
  rotated_once n slots once = once_either (take n slots) (drop n slots) (once_parted n slots once)

  pub rotated_within : (n : ℕ) (slots : List (ℕ × A)) → AreWithin slots → AreWithin (rotated n slots)
  rotated_within n slots within k h =
      let t = times_of_both k (drop n slots) (take n slots) in
      let u = times_of_both k (take n slots) (drop n slots) in
      let w = ap (λ xs. times k (numbers xs)) (take-append-drop n slots) in
      within k (omega arith)

  pub rotated_same : (n : ℕ) (slots : List (ℕ × A)) → AreOnce slots → (k : ℕ) → in_hand k (rotated n slots) ≡ in_hand k slots
  rotated_same n slots once k = either_order (take n slots) (drop n slots) (once_parted n slots once) k ∙ ap (in_hand k) (take-append-drop n slots)

  pub rotated_numbers : (n : ℕ) (slots : List (ℕ × A)) → drop n (numbers slots) ++ take n (numbers slots) ≡ numbers (rotated n slots)
  rotated_numbers n slots = ap (λ (p : List ℕ × List ℕ). p.0 ++ p.1) (λ i. (drop-map slot_number n slots i, take-map slot_number n slots i)) ∙ sym (map-append slot_number (drop n slots) (take n slots))

  pub turned_more : (n : ℕ) (slots : List (ℕ × A)) → n < length slots → turned (rotated n slots) ≡ rotated (n + 1) slots
  turned_more n [] lt = absurd (omega arith)
  turned_more n (slot ∷ others) lt =
      let slots = slot ∷ others in
      let front = get_or slots n slot in
      ap (λ rest. turned (rest ++ take n slots)) (drop_more slots n slot lt) ∙ (append_assoc (drop (n + 1) slots) (take n slots) (front ∷ []) ∙ ap (λ begun. drop (n + 1) slots ++ begun) (sym (take_more slots n slot lt)))

  -- where a slot stands
  abbrev pub place_of : ℕ → List (ℕ × A) → ℕ
  place_of k slots = position_or_len (λ n. n == k) (numbers slots)

  record StandsAt (k n : ℕ) (slots : List (ℕ × A)) : Type 0 where
    within : n < length slots
    value : A
    others : List (ℕ × A)
    begins : drop n slots ≡ (k, value) ∷ others

  stands : (k : ℕ) (slots : List (ℕ × A)) → is_some (in_hand k slots) ≡ true → StandsAt k (place_of k slots) slots
  stands k [] there = absurd (true≢false (sym there))
  stands k (slot ∷ slots) there = by_test (slot.0 == k) refl (λ more. stands k slots more)
    where
      by_test : (t : Bool) → (slot.0 == k) ≡ t → (is_some (in_hand k slots) ≡ true → StandsAt k (place_of k slots) slots) → StandsAt k (place_of k (slot ∷ slots)) (slot ∷ slots)
      by_test true is later =
          let at : 0 ≡ place_of k (slot ∷ slots) = sym (ap (λ (t : Bool). cond (not t) (1 + place_of k slots) 0) is) in
          let same : slot.0 ≡ k = eqb-true slot.0 k is in
          subst (λ (n : ℕ). StandsAt k n (slot ∷ slots)) at (record { within = omega arith; value = slot.1; others = slots; begins = ap (λ (n : ℕ). (n, slot.1) ∷ slots) same })
      by_test false isnt later =
          let at : suc (place_of k slots) ≡ place_of k (slot ∷ slots) = sym (ap (λ (t : Bool). cond (not t) (1 + place_of k slots) 0) isnt ∙ omega arith) in
          let ne : k ≢ slot.0 = λ e. true≢false (sym (eq-eqb slot.0 k (sym e)) ∙ isnt) in
          let rest = later (ap is_some (sym (in_others k slot.0 slot.1 slots ne)) ∙ there) in
          let lt = rest.within in
          subst (λ (n : ℕ). StandsAt k n (slot ∷ slots)) at (record { within = omega arith; value = rest.value; others = rest.others; begins = rest.begins })

  -- a place that is found is that of the slot, which comes to the front if those before it go behind the others
  pub record Comes (k n : ℕ) (slots : List (ℕ × A)) : Type 0 where
    pub value : A
    pub others : List (ℕ × A)
    pub front : rotated n slots ≡ (k, value) ∷ others

  pub comes : (k n : ℕ) (slots : List (ℕ × A)) → is_some (in_hand k slots) ≡ true → position (λ m. m == k) (numbers slots) ≡ Some n → Comes k n slots
  comes k n slots there found =
      let s = stands k slots there in
      let here = (cond_some (nat_lt (place_of k slots) (length (numbers slots))) (place_of k slots) n found).1 in
      subst (λ (m : ℕ). Comes k m slots) here (record { value = s.value; others = s.others ++ take (place_of k slots) slots; front = ap (λ rest. rest ++ take (place_of k slots) slots) s.begins })

  -- and one is found
  pub found_one : (k : ℕ) (slots : List (ℕ × A)) → is_some (in_hand k slots) ≡ true → position (λ m. m == k) (numbers slots) ≡ None → ⊥
  found_one k slots there lost =
      let s = stands k slots there in
      let lt = s.within in
      let l = length-map slots slot_number in
      let is : nat_lt (place_of k slots) (length (numbers slots)) ≡ true = lt-ltb (place_of k slots) (length (numbers slots)) (omega arith) in
      none-some (place_of k slots) (sym lost ∙ ap (λ (t : Bool). cond t (Some (place_of k slots)) None) is)

pub right_rotated : (n : ℕ) (v : View) (slots : List (ℕ × Slot)) → AreOnce slots → IsRight (v, slots) → IsRight (v, rotated n slots)
right_rotated n v slots once right l is = ap is_some (rotated_same n slots once (slot_of l)) ∙ right l is

-- The slot in front

module _ {A : Type 0} where
  -- a slot that was brought to the front, with its value
  pub brought_with : (n k : ℕ) (x : A) (slots was : List (ℕ × A)) → k ≡ n → (y : A) × (others : List (ℕ × A)) × (slots ≡ (k, y) ∷ others) → ((j : ℕ) → in_hand j slots ≡ in_hand j was) → in_hand n was ≡ Some x
      → (others : List (ℕ × A)) × (slots ≡ (n, x) ∷ others)
  brought_with n k x slots was same front keeps there =
      let y = front.0 in
      let others = front.1 in
      let is : slots ≡ (n, y) ∷ others = front.2 ∙ ap (λ (m : ℕ). (m, y) ∷ others) same in
      let value : y ≡ x = same_Some y x (sym (ap (in_hand n) is ∙ in_front n y others) ∙ (keeps n ∙ there)) in
      (others, is ∙ ap (λ z. (n, z) ∷ others) value)

  pub others_once : (slot : ℕ × A) (others : List (ℕ × A)) → AreOnce (slot ∷ others) → AreOnce others
  others_once slot others once k =
      let c = times_cons k slot.0 (numbers others) in
      let o = once k in
      omega arith

  -- it isn't among the others
  pub front_alone : (n : ℕ) (x : A) (others : List (ℕ × A)) → AreOnce ((n, x) ∷ others) → in_hand n others ≡ None
  front_alone n x others once = by_test (in_hand n others) refl
    where
      by_test : (a : Option A) → in_hand n others ≡ a → in_hand n others ≡ None
      by_test None is = is
      by_test (Some y) is =
          let more = among n others y is in
          let one = weight_same n in
          let c = times_cons n n (numbers others) in
          let o = once n in
          absurd (omega arith)

  -- another value in it
  pub as_many : (k n : ℕ) (x y : A) (others : List (ℕ × A)) → is_some (in_hand k ((n, y) ∷ others)) ≡ is_some (in_hand k ((n, x) ∷ others))
  as_many k n x y others = by_test (k == n)
    where
      by_test : (t : Bool) → is_some (if t then Some y else in_hand k others) ≡ is_some (if t then Some x else in_hand k others)
      by_test true = refl
      by_test false = refl

pub right_given : (l : lock.Lock) (v : View) (x : Slot) (others : List (ℕ × Slot)) → AreOnce ((slot_of l, x) ∷ others) → IsRight (v, (slot_of l, x) ∷ others) → IsRight (given l v, others)
right_given l v x others once right k is = ⊎_elim
    (λ (same : k ≡ l). subst (λ (j : lock.Lock). is_some (in_hand (slot_of j) others) ≡ holds j (given l v)) (sym same)
    (ap is_some (front_alone (slot_of l) x others once) ∙ sym (ap (λ h. h.held) (hold_given l v))))
    (λ (ne : k ≢ l). ap is_some (sym (in_others (slot_of k) (slot_of l) x others (slot_apart k l ne))) ∙ (right k is ∙ sym (ap (λ h. h.held) (hold_kept k l v ne))))
    (lock_cases k l)

-- A lock that was just taken, and is the only one, may be given back as it is
pub given_at_once : (opened : World) (l : lock.Lock) (v : View) (at : Moment) (x : Stored) → HoldsNone v → Took opened l v at x → MayGive opened l (taken l v at) (taken l v at).types.lists x
given_at_once opened l v at x none took = record {
  held = ap (λ h. h.held) (hold_taken l v at);
  returns = refl;
  agrees = agrees_so l took.value;
  shut = shut_so l took.head;
}
  where
    shut_so : (k : lock.Lock) → RowSays opened k (taken k v at) → IsShut k (taken k v at)
    shut_so locks.Types says = λ o held. absurd (true≢false (sym held ∙ none (locks.Row o)))
    shut_so (locks.Row o) says = says.0

    agrees_so : (k : lock.Lock) → ValueAgrees opened k (taken k v at) at.lists x → ValueAgrees opened k (taken k v at) (taken k v at).types.lists x
    agrees_so locks.Types a = a
    agrees_so (locks.Row o) a = a
