-- Lists of which one item changes, or to which one comes.
use Rattle.std.proofs.Common.{◌≡◌, ◌≢◌, ℕ, zero, suc, ◌+◌, ◌<◌, ◌≤◌, List, [], ◌∷◌, ◌++◌, length, map, set, get_or, refl, sym, ap, ◌∙◌, subst, ⊎_elim, arith}
use Rattle.std.specs.Prelude.{sum_by}
use Rattle.std.proofs.lemmas.List.Sums.{sum_by-cons, sum_by-set, get_or-le-sum_by}
use mathlib.Core.Option.{some, some-injective, some-ne-none}
use mathlib.Core.Logic.{dite}
use native.Mathlib.Decide.{ℕ_discrete}
use lib.ListN.{get_elem?}
use Rattle.atomic_table.proofs.Lists.{at_set, at_snoc, at_map, set_again, set_here, set_else}
use Rattle.at_core.specs.Rule.{Each}

module _ {A : Type 0} where
  pub each_set : (P : ℕ → A → Type 0) (xs : List A) (i : ℕ) (y : A) → Each P xs → P i y → Each P (set xs i y)
  each_set P xs i y all new j x e =
      ⊎_elim
      (λ (t : (j ≡ i) × (y ≡ x)). subst (λ (k : ℕ × A). P k.0 k.1) (λ k. (sym t.0 k, t.1 k)) new)
      (λ (t : (j ≢ i) × (get_elem? xs j ≡ some x)). all j x t.1)
      (at_set xs i j y x e)

  -- the same where the others are known to be others
  pub each_other : (P : ℕ → A → Type 0) (xs : List A) (i : ℕ) (y : A) → ((j : ℕ) (x : A) → j ≢ i → get_elem? xs j ≡ some x → P j x) → P i y → Each P (set xs i y)
  each_other P xs i y others new j x e =
      ⊎_elim
      (λ (t : (j ≡ i) × (y ≡ x)). subst (λ (k : ℕ × A). P k.0 k.1) (λ k. (sym t.0 k, t.1 k)) new)
      (λ (t : (j ≢ i) × (get_elem? xs j ≡ some x)). others j x t.0 t.1)
      (at_set xs i j y x e)

  pub there : (xs : List A) (i : ℕ) (x : A) → get_elem? xs i ≡ some x → i < length xs
  there [] i x e = absurd (some-ne-none x (sym e))
  there (y ∷ xs) zero x e = omega arith
  there (y ∷ xs) (suc i) x e = let lt = there xs i x e in omega arith

  -- what is so where one item has changed was so before, if it was so of that item
  pub each_back : (P : ℕ → A → Type 0) (xs : List A) (i : ℕ) (x y : A) → get_elem? xs i ≡ some x → (P i y → P i x) → Each P (set xs i y) → Each P xs
  each_back P xs i x y at back all j z e = dite (ℕ_discrete j i)
      (λ (is : j ≡ i).
      let same : x ≡ z = some-injective x z (sym at ∙ (ap (get_elem? xs) (sym is) ∙ e)) in
      subst (λ (k : ℕ × A). P k.0 k.1) (λ k. (sym is k, same k)) (back (all i y (set_here xs i y (there xs i x at)))))
      (λ (ne : j ≢ i). all j z (set_else xs i j y ne ∙ e))

  pub each_snoc : (P : ℕ → A → Type 0) (xs : List A) (y : A) → Each P xs → ((j : ℕ) → P j y) → Each P (xs ++ y ∷ [])
  each_snoc P xs y all new j x e = ⊎_elim (λ (t : get_elem? xs j ≡ some x). all j x t) (λ (t : y ≡ x). subst (P j) t (new j)) (at_snoc xs y x j e)

  pub each_one : (P : ℕ → A → Type 0) (x : A) → P 0 x → Each P (x ∷ [])
  each_one P x p zero y e = subst (P 0) (some-injective x y e) p
  each_one P x p (suc j) y e = absurd (some-ne-none y (sym e))

  pub got : (xs : List A) (i : ℕ) (x d : A) → get_elem? xs i ≡ some x → get_or xs i d ≡ x
  got [] i x d e = absurd (some-ne-none x (sym e))
  got (y ∷ xs) zero x d e = some-injective y x e
  got (y ∷ xs) (suc i) x d e = got xs i x d e

  pub sum_set : (f : A → ℕ) (xs : List A) (i : ℕ) (x y : A) → get_elem? xs i ≡ some x → sum_by f (set xs i y) + f x ≡ sum_by f xs + f y
  sum_set f xs i x y e = ap (λ (z : A). sum_by f (set xs i y) + f z) (sym (got xs i x x e)) ∙ sum_by-set f xs i y x (there xs i x e)

  -- what one item has is in the sum
  pub sum_has : (f : A → ℕ) (xs : List A) (i : ℕ) (x : A) → get_elem? xs i ≡ some x → f x ≤ sum_by f xs
  sum_has f xs i x e = subst (λ (z : A). f z ≤ sum_by f xs) (got xs i x x e) (get_or-le-sum_by f xs i x (there xs i x e))

  -- two items have it together
  pub sum_two : (f : A → ℕ) (xs : List A) (i j : ℕ) (x y : A) → j ≢ i → get_elem? xs i ≡ some x → get_elem? xs j ≡ some y → f x + f y ≤ sum_by f xs
  sum_two f [] i j x y ne e e' = absurd (some-ne-none x (sym e))
  sum_two f (z ∷ xs) zero zero x y ne e e' = absurd (ne refl)
  sum_two f (z ∷ xs) zero (suc j) x y ne e e' =
      let is : f z ≡ f x = ap f (some-injective z x e) in let r = sum_has f xs j y e' in let a = sum_by-cons f z xs in omega arith
  sum_two f (z ∷ xs) (suc i) zero x y ne e e' =
      let is : f z ≡ f y = ap f (some-injective z y e') in let r = sum_has f xs i x e in let a = sum_by-cons f z xs in omega arith
  sum_two f (z ∷ xs) (suc i) (suc j) x y ne e e' = let r = sum_two f xs i j x y (λ k. ne (ap suc k)) e e' in let a = sum_by-cons f z xs in omega arith

  -- a sum is no more than another, item by item
  pub sum_le : (f g : A → ℕ) (xs : List A) → Each (λ i x. f x ≤ g x) xs → sum_by f xs ≤ sum_by g xs
  sum_le f g [] h = omega arith
  sum_le f g (x ∷ xs) h =
      let r = sum_le f g xs (λ j y e. h (suc j) y e) in let here : f x ≤ g x = h 0 x refl in let a = sum_by-cons f x xs in let b = sum_by-cons g x xs in omega arith

  -- a sum that isn't 0 has an item that isn't
  pub sum_some : (f : A → ℕ) (xs : List A) → 0 < sum_by f xs → (i : ℕ) × (x : A) × (get_elem? xs i ≡ some x) × (0 < f x)
  sum_some f [] h = absurd (omega arith)
  sum_some f (x ∷ xs) h = by_test (f x) refl (λ more. sum_some f xs more)
    where
      by_test : (n : ℕ) → f x ≡ n → (0 < sum_by f xs → (i : ℕ) × (y : A) × (get_elem? xs i ≡ some y) × (0 < f y)) → (i : ℕ) × (y : A) × (get_elem? (x ∷ xs) i ≡ some y) × (0 < f y)
      by_test zero e later = let a = sum_by-cons f x xs in let r = later (omega arith) in (suc r.0, r.1, r.2, r.3)
      by_test (suc n) e later = (0, x, refl, omega arith)

module _ {A B : Type 0} where
  pub map_set : (f : A → B) (xs : List A) (i : ℕ) (y : A) → map f (set xs i y) ≡ set (map f xs) i (f y)
  map_set f [] i y = refl
  map_set f (x ∷ xs) zero y = refl
  map_set f (x ∷ xs) (suc i) y = ap (λ ys. f x ∷ ys) (map_set f xs i y)

  pub map_snoc : (f : A → B) (xs : List A) (y : A) → map f (xs ++ y ∷ []) ≡ map f xs ++ f y ∷ []
  map_snoc f [] y = refl
  map_snoc f (x ∷ xs) y = ap (λ ys. f x ∷ ys) (map_snoc f xs y)

  -- where the function doesn't tell the two apart, nothing changes
  pub map_same : (f : A → B) (xs : List A) (i : ℕ) (x y : A) → get_elem? xs i ≡ some x → f y ≡ f x → map f (set xs i y) ≡ map f xs
  map_same f xs i x y e same = map_set f xs i y ∙ set_again (map f xs) i (f y) (at_map f xs i x e ∙ ap (λ b. some b) (sym same))

  -- what stands in the mapped list stands for an item
  pub map_back : (f : A → B) (xs : List A) (i : ℕ) (y : B) → get_elem? (map f xs) i ≡ some y → (x : A) × (get_elem? xs i ≡ some x) × (f x ≡ y)
  map_back f [] i y e = absurd (some-ne-none y (sym e))
  map_back f (x ∷ xs) zero y e = (x, refl, some-injective (f x) y e)
  map_back f (x ∷ xs) (suc i) y e = map_back f xs i y e
