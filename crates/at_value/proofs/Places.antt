-- Where a number stands among rising pairs, and what an edit at that place makes.
use Rattle.std.proofs.Common.{ℕ, zero, suc, ◌≡◌, ◌<◌, ◌≤◌, ◌==◌, ap, sym, ◌∙◌, refl, nat_lt, List, [], ◌∷◌, length, get_or, set, Option, Some, None, IsSome, is_some, Bool, true, false, arith}
use Rattle.std.specs.List.{insert, remove}
use Rattle.std.specs.List.Sorted.{IsNonDecreasingBy, IsPartitionedBy, IsPartitionPoint}
use Rattle.std.proofs.lemmas.List.Sorted.{IsPartitionedBy-ltb}
use Rattle.at_value.specs.Pairs.{value_at, with_value, without, place_in, AreAbove, IsRising}
use Rattle.at_value.proofs.Maps.{by_order, value_at-above}

-- nothing is no value
pub none_is_not_some : {V : Type 0} (o : Option V) → o ≡ None → IsSome o → ⊥
none_is_not_some o e h = let no : false ≡ true = rw e at h in cc

-- a test that answers no, and would answer yes to a value
pub none_from_test : {V : Type 0} (o : Option V) (test : Bool) → (IsSome o → test ≡ true) → test ≡ false → o ≡ None
none_from_test None test if_some is_no = refl
none_from_test (Some v) test if_some is_no = absurd (let both : false ≡ true = sym is_no ∙ if_some refl in cc)

module _ {V : Type 0} where
  -- a number below the first isn't there
  first_above : (n : ℕ) (p : ℕ × V) (ps : List (ℕ × V)) → IsRising (p ∷ ps) → n < p.0 → value_at n ps ≡ None
  first_above n p ps h gt = let le : n ≤ p.0 = omega arith in value_at-above p.0 n ps h.0 le

  -- the place is in the list or at its end
  pub within : (n : ℕ) (pairs : List (ℕ × V)) → place_in n pairs ≤ length pairs
  within n [] = omega arith
  within n (p ∷ ps) = by_order p.0 n (λ lt _ _. rw lt (omega (arith, within n ps))) (λ ge _ _. rw ge (omega arith)) (λ ge _ _. rw ge (omega arith))

  -- where no number is from n on, n isn't there
  pub past : (n : ℕ) (pairs : List (ℕ × V)) → length pairs ≤ place_in n pairs → value_at n pairs ≡ None
  past n [] h = refl
  past n (p ∷ ps) h =
      by_order p.0 n (λ lt ne _. let h' = rw lt at h in rw ne (past n ps (omega arith))) (λ ge _ _. let h' = rw ge at h in absurd (omega arith))
      (λ ge _ _. let h' = rw ge at h in absurd (omega arith))

  -- the number at the place is n exactly where n is there
  pub tells : (n : ℕ) (d : ℕ × V) (pairs : List (ℕ × V)) → IsRising pairs → place_in n pairs < length pairs
      → ((get_or pairs (place_in n pairs) d).0 == n) ≡ is_some (value_at n pairs)
  tells n d [] h in_list = absurd (omega arith)
  tells n d (p ∷ ps) h in_list =
      by_order p.0 n (λ lt ne _. let in_rest = rw lt at in_list in rw (lt, ne) (tells n d ps h.1 (omega arith))) (λ ge e _. rw (ge, e) refl)
      (λ ge ne gt. let none = first_above n p ps h gt in rw (ge, ne, none) refl)

  -- a number that is there stands at its place, with its value
  pub fits : (n : ℕ) (pairs : List (ℕ × V)) → IsRising pairs → IsSome (value_at n pairs) → place_in n pairs < length pairs
  fits n [] h there = absurd (none_is_not_some {V = V} None refl there)
  fits n (p ∷ ps) h there =
      by_order p.0 n (λ lt ne _. rw lt (omega (arith, fits n ps h.1 (rw ne at there)))) (λ ge _ _. rw ge (omega arith)) (λ ge _ _. rw ge (omega arith))

  pub value : (n : ℕ) (d : ℕ × V) (pairs : List (ℕ × V)) → IsRising pairs → IsSome (value_at n pairs)
      → value_at n pairs ≡ Some (get_or pairs (place_in n pairs) d).1
  value n d [] h there = absurd (none_is_not_some {V = V} None refl there)
  value n d (p ∷ ps) h there =
      by_order p.0 n (λ lt ne _. rw (lt, ne) (value n d ps h.1 (rw ne at there))) (λ ge e _. rw (ge, e) refl)
      (λ _ ne gt. absurd (none_is_not_some _ (first_above n p ps h gt) (rw ne at there)))

  -- a new value at the place of a number that is there
  pub replaced : (n : ℕ) (v : V) (d : ℕ × V) (pairs : List (ℕ × V)) → IsRising pairs → IsSome (value_at n pairs)
      → set pairs (place_in n pairs) ((get_or pairs (place_in n pairs) d).0, v) ≡ with_value n v pairs
  replaced n v d [] h there = absurd (none_is_not_some {V = V} None refl there)
  replaced n v d (p ∷ ps) h there =
      by_order p.0 n (λ lt ne _. rw lt (ap (λ l. p ∷ l) (replaced n v d ps h.1 (rw ne at there))))
      (λ ge e same. rw (ge, e) (ap (λ k. (k, v) ∷ ps) same)) (λ _ ne gt. absurd (none_is_not_some _ (first_above n p ps h gt) (rw ne at there)))

  -- the pair at the place of a number that is there taken out
  pub removed : (n : ℕ) (pairs : List (ℕ × V)) → IsRising pairs → IsSome (value_at n pairs) → remove pairs (place_in n pairs) ≡ without n pairs
  removed n [] h there = absurd (none_is_not_some {V = V} None refl there)
  removed n (p ∷ ps) h there =
      by_order p.0 n (λ lt ne _. rw (lt, ne) (ap (λ l. p ∷ l) (removed n ps h.1 (rw ne at there)))) (λ ge e _. rw (ge, e) refl)
      (λ _ ne gt. absurd (none_is_not_some _ (first_above n p ps h gt) (rw ne at there)))

  -- a pair put in at the place of a number that isn't there
  pub inserted : (n : ℕ) (v : V) (pairs : List (ℕ × V)) → value_at n pairs ≡ None → insert pairs (place_in n pairs) (n, v) ≡ with_value n v pairs
  inserted n v [] h = refl
  inserted n v (p ∷ ps) h =
      by_order p.0 n (λ lt ne _. rw lt (ap (λ l. p ∷ l) (inserted n v ps (rw ne at h))))
      (λ _ e _. absurd (let none : Some p.1 ≡ None = rw e at h in cc)) (λ ge ne _. rw (ge, ne) refl)

  -- what all are above, each is above
  above_at : (m : ℕ) (pairs : List (ℕ × V)) → AreAbove m pairs → (i : ℕ) (d : ℕ × V) → i < length pairs → m < (get_or pairs i d).0
  above_at m [] h i d lt = absurd (omega arith)
  above_at m (p ∷ ps) h zero d lt = h.0
  above_at m (p ∷ ps) h (suc i) d lt = above_at m ps h.1 i d (omega arith)

  rising_order : (pairs : List (ℕ × V)) → IsRising pairs → IsNonDecreasingBy (λ p. p.0) pairs
  rising_order [] h i j d le lt = absurd (omega arith)
  rising_order (p ∷ ps) h zero zero d le lt = omega arith
  rising_order (p ∷ ps) h zero (suc j) d le lt = omega (arith, above_at p.0 ps h.0 j d (omega arith))
  rising_order (p ∷ ps) h (suc i) zero d le lt = absurd (omega arith)
  rising_order (p ∷ ps) h (suc i) (suc j) d le lt = rising_order ps h.1 i j d (omega arith) (omega arith)

  -- rising pairs stand below n up to some index, and not from there on
  pub partitioned : (n : ℕ) (pairs : List (ℕ × V)) → IsRising pairs → IsPartitionedBy (λ p. nat_lt p.0 n) pairs
  partitioned n pairs h = IsPartitionedBy-ltb (λ p. p.0) pairs n (rising_order pairs h)

  -- that index is the place
  pub place_from_partition : (n k : ℕ) (pairs : List (ℕ × V)) → k ≤ length pairs
      → IsPartitionPoint (λ p. nat_lt p.0 n ≡ true) (λ p. nat_lt p.0 n ≡ false) pairs k → k ≡ place_in n pairs
  place_from_partition n zero [] le h = refl
  place_from_partition n (suc k) [] le h = absurd (omega arith)
  place_from_partition n zero (p ∷ ps) le h = let ge : nat_lt p.0 n ≡ false = h.1 0 p (omega arith) (omega arith) in rw ge refl
  place_from_partition n (suc k) (p ∷ ps) le h =
      let lt : nat_lt p.0 n ≡ true = h.0 0 p (omega arith) (omega arith) in
      rw lt (ap suc (place_from_partition n k ps (omega arith) (λ i d from to. h.0 (suc i) d (omega arith) (omega arith), λ i d from to. h.1 (suc i) d (omega arith) (omega arith))))
