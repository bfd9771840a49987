-- Lists that hold the same, in the same order, are the same.
use Rattle.std.proofs.Common.{◌≡◌, ◌∙◌, ap, refl, ℕ, zero, suc, ◌+◌, ◌<◌, ◌≤◌, ◌==◌, List, [], ◌∷◌, length, get_or, arith, Bool, true, false, cond, subst, ◌⊎◌, inl, inr, eqb-true, eq-eqb, sum_by}
use Rattle.std.proofs.lemmas.List.Sums.{sum_by-cons}
use Rattle.std.specs.List.{Contains}
use Rattle.std.specs.List.Sorted.{IsPermutation, IsNonDecreasingBy}
use Rattle.std.proofs.lemmas.List.Sorted.{Contains-permutation, IsPermutation-sym, IsNonDecreasingBy-drop}

-- z is in the list
abbrev pub In : {X : Type 0} → X → List X → Type 0
In z [] = ⊥
In z (x ∷ xs) = (x ≡ z) ⊎ In z xs

module _ {X : Type 0} where
  pub contains_from_in : (z : X) (xs : List X) → In z xs → Contains xs z
  contains_from_in z [] none = absurd none
  contains_from_in z (x ∷ xs) (inl is) = (0, omega arith, is)
  contains_from_in z (x ∷ xs) (inr within) =
      let rest = contains_from_in z xs within in
      (suc rest.0, omega (arith, rest.1), rest.2)

  pub in_from_at : (xs : List X) (k : ℕ) (d : X) → k < length xs → In (get_or xs k d) xs
  in_from_at [] k d within = absurd (omega arith)
  in_from_at (x ∷ xs) zero d within = inl refl
  in_from_at (x ∷ xs) (suc k) d within = inr (in_from_at xs k d (omega arith))

  -- what is in a list is in each list of the same items
  pub In-permutation : (xs ys : List X) (z : X) → IsPermutation xs ys → In z ys → In z xs
  In-permutation xs ys z same within =
      let there = Contains-permutation ys xs z (IsPermutation-sym xs ys same) (contains_from_in z ys within) in
      subst (λ (x : X). In x xs) there.2 (in_from_at xs there.0 z there.1)

module _ {V : Type 0} where
  -- 1 for a pair under this number
  abbrev pub once : ℕ → ℕ × V → ℕ
  once n pair = cond (pair.0 == n) 1 0

  found_if : (n : ℕ) (x : ℕ × V) (xs : List (ℕ × V)) (b : Bool) → (x.0 == n) ≡ b → 1 ≤ cond b 1 0 + sum_by (once n) xs → (1 ≤ sum_by (once n) xs → ((z : ℕ × V) × In z xs × (z.0 ≡ n))) → ((z : ℕ × V) × In z (x ∷ xs) × (z.0 ≡ n))
  found_if n x xs true is some more = (x, inl refl, eqb-true x.0 n is)
  found_if n x xs false is some more = let rest = more (omega arith) in (rest.0, inr rest.1, rest.2)

  -- where pairs are counted under a number, there is one
  pub found : (n : ℕ) (xs : List (ℕ × V)) → 1 ≤ sum_by (once n) xs → ((z : ℕ × V) × In z xs × (z.0 ≡ n))
  found n [] some = absurd (omega arith)
  found n (x ∷ xs) some = found_if n x xs (x.0 == n) refl (omega (arith, sum_by-cons (once n) x xs)) (found n xs)

  -- the first pair is counted under its own number
  pub first_counts : (x : ℕ × V) (xs : List (ℕ × V)) → 1 ≤ sum_by (once x.0) (x ∷ xs)
  first_counts x xs =
      let one : once x.0 x ≡ 1 = ap (λ (b : Bool). cond b 1 0) (eq-eqb x.0 x.0 refl) in
      omega (arith, sum_by-cons (once x.0) x xs, one)

  -- the same pairs, in whichever order
  abbrev pub Alike : List (ℕ × V) → List (ℕ × V) → Type 0
  Alike xs ys = (f : ℕ × V → ℕ) → sum_by f ys ≡ sum_by f xs

  module _ (T : ℕ → ℕ → Type 0) where
    -- each pair stands before those that it is related to by its number
    abbrev pub IsOrderly : List (ℕ × V) → Type 0
    IsOrderly [] = Unit {0}
    IsOrderly (x ∷ xs) = ((y : ℕ × V) → In y xs → T x.0 y.0) × IsOrderly xs

    before_found : (itself : (a : ℕ) → T a a) (x : ℕ × V) (xs : List (ℕ × V)) (n : ℕ) → ((y : ℕ × V) → In y xs → T x.0 y.0) → (z : ℕ × V) → In z (x ∷ xs) → z.0 ≡ n → T x.0 n
    before_found itself x xs n before z (inl is) at =
        let same : x.0 ≡ n = ap (λ (p : ℕ × V). p.0) is ∙ at in
        subst (T x.0) same (itself x.0)
    before_found itself x xs n before z (inr within) at = subst (T x.0) at (before z within)

    -- two orderly lists of the same pairs are one
    pub orderly_unique : (itself : (a : ℕ) → T a a) (antisymmetric : (a b : ℕ) → T a b → T b a → a ≡ b) (xs ys : List (ℕ × V)) → Alike xs ys → ((x y : ℕ × V) → In x xs → In y ys → x.0 ≡ y.0 → x ≡ y) → IsOrderly xs → IsOrderly ys → xs ≡ ys
    orderly_unique itself antisymmetric [] [] alike one orderly orderly' = refl
    orderly_unique itself antisymmetric [] (y ∷ ys) alike one orderly orderly' =
        absurd (omega (arith, first_counts y ys, alike (once y.0)))
    orderly_unique itself antisymmetric (x ∷ xs) [] alike one orderly orderly' =
        absurd (omega (arith, first_counts x xs, alike (once x.0)))
    orderly_unique itself antisymmetric (x ∷ xs) (y ∷ ys) alike one orderly orderly' =
        let y_there = found y.0 (x ∷ xs) (omega (arith, first_counts y ys, alike (once y.0))) in
        let x_there = found x.0 (y ∷ ys) (omega (arith, first_counts x xs, alike (once x.0))) in
        let upto = before_found itself x xs y.0 orderly.0 y_there.0 y_there.1 y_there.2 in
        let from = before_found itself y ys x.0 orderly'.0 x_there.0 x_there.1 x_there.2 in
        let first : x ≡ y = one x y (inl refl) (inl refl) (antisymmetric x.0 y.0 upto from) in
        let rest : xs ≡ ys = orderly_unique itself antisymmetric xs ys
        (λ f. omega (arith, alike f, sum_by-cons f x xs, sum_by-cons f y ys, ap f first))
        (λ u v in_xs in_ys. one u v (inr in_xs) (inr in_ys))
        orderly.1 orderly'.1 in
        cc

    -- pairs by rising keys are orderly, where the keys say so
    pub orderly_from_keys : (key : ℕ × V → ℕ) (xs : List (ℕ × V)) → ((x y : ℕ × V) → In x xs → In y xs → key x ≤ key y → T x.0 y.0) → IsNonDecreasingBy key xs → IsOrderly xs
    orderly_from_keys key [] says rising = tt
    orderly_from_keys key (x ∷ xs) says rising = (
      λ y within.
          let at = contains_from_in y xs within in
          let up : key x ≤ key (get_or xs at.0 y) = rising 0 (suc at.0) y (omega arith) (omega (arith, at.1)) in
          says x y (inl refl) (inr within) (subst (λ (z : ℕ × V). key x ≤ key z) at.2 up),
      orderly_from_keys key xs (λ u v in_u in_v. says u v (inr in_u) (inr in_v)) (IsNonDecreasingBy-drop key 1 (x ∷ xs) rising),
    )
