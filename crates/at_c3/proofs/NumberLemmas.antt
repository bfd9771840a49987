-- Which numbers stand in lists: tests by recursion, beside the facts that clauses state.
use Rattle.std.proofs.Common.{◌≡◌, ◌∙◌, ap, sym, refl, subst, ℕ, get_or, List, [], ◌∷◌, map, drop, Bool, true, false, cond, ◌||◌, ◌==◌, Contains, Any, nat_eq}
use Rattle.std.specs.List.{list_any, AllByRecursion}
use Rattle.std.proofs.lemmas.Bool.{eqb-true, eq-eqb, ne_eqb, eqb-false, or_parts, or_from}
use Rattle.std.proofs.lemmas.List.Folds.{Any-from_list_any, list_any-from_Any}
use Rattle.at_c3.specs.Merge.{without_head}

pub list_any-map : {A B : Type 0} (test : B → Bool) (view : A → B) (xs : List A) → list_any test (map view xs) ≡ list_any (λ x. test (view x)) xs
list_any-map test view [] = refl
list_any-map test view (x ∷ xs) = ap (λ b. test (view x) || b) (list_any-map test view xs)

-- two tests that agree at each element give one answer
pub list_any_agree : {A : Type 0} (p q : A → Bool) → ((x : A) → p x ≡ q x) → (xs : List A) → list_any p xs ≡ list_any q xs
list_any_agree p q same [] = refl
list_any_agree p q same (x ∷ xs) = ap (λ b. b || list_any p xs) (same x) ∙ ap (λ b. q x || b) (list_any_agree p q same xs)

-- whether the list has the number
abbrev pub has : ℕ → List ℕ → Bool
has n list = list_any (λ x. x == n) list

pub Contains-from_has : (n : ℕ) (list : List ℕ) → has n list ≡ true → Contains list n
Contains-from_has n list h =
    let some = Any-from_list_any (λ x. x == n) list h in
    (some.0, some.2, subst (λ y. get_or list some.0 y ≡ y) (eqb-true some.1 n some.4) some.3)

pub has-from_Contains : (n : ℕ) (list : List ℕ) → Contains list n → has n list ≡ true
has-from_Contains n list at = list_any-from_Any (λ x. x == n) list (at.0, n, at.1, at.2, eq-eqb n n refl)

-- the same of some list, seen through a part of it
pub Any-from_has : (part : List ℕ → List ℕ) (n : ℕ) (lists : List (List ℕ)) → list_any (λ list. has n (part list)) lists ≡ true → Any (λ list. Contains (part list) n) lists
Any-from_has part n lists h =
    let some = Any-from_list_any (λ list. has n (part list)) lists h in
    (some.0, some.1, some.2, some.3, Contains-from_has n (part some.1) some.4)

pub has-from_Any : (part : List ℕ → List ℕ) (n : ℕ) (lists : List (List ℕ)) → Any (λ list. Contains (part list) n) lists → list_any (λ list. has n (part list)) lists ≡ true
has-from_Any part n lists some =
    list_any-from_Any (λ list. has n (part list)) lists (some.0, some.1, some.2, some.3, has-from_Contains n (part some.1) some.4)

-- another number than the head stays
pub has-without_head : (n c : ℕ) (list : List ℕ) → (c == n) ≡ false → has n (without_head c list) ≡ has n list
has-without_head n c [] other = refl
has-without_head n c (x ∷ xs) other =
    elim (x == c) as (λ b. (x == c) ≡ b → has n (cond b xs (x ∷ xs)) ≡ has n (x ∷ xs)) [
      | true ↦ λ is. let e : (x == n) ≡ false = rw (eqb-true x c is) other in sym (ap (λ b. b || has n xs) e)
      | false ↦ λ _. refl
    ] refl

-- a head that stands in no tail is gone
pub has-own_head : (c : ℕ) (list : List ℕ) → has c (drop 1 list) ≡ false → has c (without_head c list) ≡ false
has-own_head c [] free = refl
has-own_head c (x ∷ xs) free =
    elim (x == c) as (λ b. (x == c) ≡ b → has c (cond b xs (x ∷ xs)) ≡ false) [
      | true ↦ λ _. free
      | false ↦ λ is. or_from (x == c) (has c xs) is free
    ] refl

pub own_head_gone : (c : ℕ) (lists : List (List ℕ)) → list_any (λ list. has c (drop 1 list)) lists ≡ false → list_any (has c) (map (without_head c) lists) ≡ false
own_head_gone c [] free = refl
own_head_gone c (list ∷ lists) free =
    let parts = or_parts (has c (drop 1 list)) (list_any (λ l. has c (drop 1 l)) lists) free in
    or_from (has c (without_head c list)) (list_any (has c) (map (without_head c) lists)) (has-own_head c list parts.0) (own_head_gone c lists parts.1)

-- what the list has not differs from each of its numbers
pub all_differ : (c : ℕ) (list : List ℕ) → has c list ≡ false → AllByRecursion (λ y. nat_eq c y ≡ false) list
all_differ c [] none = tt
all_differ c (x ∷ xs) none =
    let parts = or_parts (x == c) (has c xs) none in
    (ne_eqb c x (λ e. eqb-false x c parts.0 (sym e)), all_differ c xs parts.1)
