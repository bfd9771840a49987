-- The laws of maps by rising number.
use Rattle.std.proofs.Common.{ℕ, ◌≡◌, ◌≢◌, ◌<◌, ◌≤◌, ◌==◌, inl, inr, ap, subst, refl, if◌then◌else◌, nat_lt, List, [], ◌∷◌, Some, None, true, false, arith}
use Rattle.std.proofs.lemmas.Bool.{cases_lt}
use Rattle.std.proofs.lemmas.Bool.Decides.{nat_tests, eqb_tells}
use Rattle.at_value.specs.Pairs.{value_at, with_value, without, AreAbove, IsRising, MapLaws}

-- what the tests answer where one number is below another, and where the first isn't below
pub below_tells : (m n : ℕ) → m < n → (nat_lt m n ≡ true) × ((m == n) ≡ false)
below_tells m n h = (grind (arith, nat_tests), grind (arith, nat_tests))

same_tells : (m n : ℕ) → m ≡ n → (nat_lt m n ≡ false) × ((m == n) ≡ true)
same_tells m n h = (grind (arith, nat_tests), grind (arith, nat_tests))

above_tells : (m n : ℕ) → n < m → (nat_lt m n ≡ false) × ((m == n) ≡ false)
above_tells m n h = (grind (arith, nat_tests), grind (arith, nat_tests))

other_tells : (m n : ℕ) → m ≢ n → (n == m) ≡ false
other_tells m n h = grind (arith, nat_tests)

-- a goal by the order of two numbers, with what the tests on them answer
pub by_order : {A : Type 0} (m n : ℕ) → (nat_lt m n ≡ true → (m == n) ≡ false → m < n → A) → (nat_lt m n ≡ false → (m == n) ≡ true → m ≡ n → A)
    → (nat_lt m n ≡ false → (m == n) ≡ false → n < m → A) → A
by_order {A} m n below same above =
    elim (cases_lt m n) [
      | inl h ↦ let t = below_tells m n h in below t.0 t.1 h
      | inr h ↦ elim (eqb_tells m n) [
        | inl e ↦ let t = same_tells m n e.1 in same t.0 t.1 e.1
        | inr e ↦ let gt : n < m = grind arith in let t = above_tells m n gt in above t.0 t.1 gt
      ]
    ]

module _ {V : Type 0} where
  -- a number that is not above what all are above isn't there
  pub value_at-above : (m n : ℕ) (pairs : List (ℕ × V)) → AreAbove m pairs → n ≤ m → value_at n pairs ≡ None
  value_at-above m n [] h le = refl
  value_at-above m n (p ∷ ps) h le =
      let above : n < p.0 = omega (arith, h.0) in
      let t = above_tells p.0 n above in
      rw t.1 (value_at-above m n ps h.1 le)

  -- a number that isn't there is not cut
  pub without-absent : (n : ℕ) (pairs : List (ℕ × V)) → value_at n pairs ≡ None → without n pairs ≡ pairs
  without-absent n [] h = refl
  without-absent n (p ∷ ps) h =
      by_order p.0 n (λ _ ne _. rw ne (ap (λ l. p ∷ l) (without-absent n ps (rw ne at h))))
      (λ _ e _. absurd (let none : Some p.1 ≡ None = rw e at h in cc))
      (λ _ ne _. rw ne (ap (λ l. p ∷ l) (without-absent n ps (rw ne at h))))

  -- the new value is read back
  pub put_here : (n : ℕ) (v : V) (pairs : List (ℕ × V)) → value_at n (with_value n v pairs) ≡ Some v
  put_here n v [] = let t = same_tells n n refl in rw t.1 refl
  put_here n v (p ∷ ps) =
      let t = same_tells n n refl in
      by_order p.0 n (λ lt ne _. rw (lt, ne) (put_here n v ps)) (λ ge e _. rw (ge, e, t.1) refl) (λ ge ne _. rw (ge, ne, t.1) refl)

  -- what stands under another number stays
  pub put_elsewhere : (m n : ℕ) (v : V) (pairs : List (ℕ × V)) → m ≢ n → value_at m (with_value n v pairs) ≡ value_at m pairs
  put_elsewhere m n v [] h = let ne = other_tells m n h in rw ne refl
  put_elsewhere m n v (p ∷ ps) h =
      let ne = other_tells m n h in
      by_order p.0 n (λ lt _ _. rw lt (ap (λ o. if p.0 == m then Some p.1 else o) (put_elsewhere m n v ps h)))
      (λ ge e same. let ne' : (p.0 == m) ≡ false = rw (← same) at ne in rw (ge, e, ne, ne') refl) (λ ge ne' _. rw (ge, ne', ne) refl)

  -- the new number is above what the others are above
  with_value-above : (m n : ℕ) (v : V) (pairs : List (ℕ × V)) → m < n → AreAbove m pairs → AreAbove m (with_value n v pairs)
  with_value-above m n v [] lt h = (lt, tt)
  with_value-above m n v (p ∷ ps) lt h =
      by_order p.0 n (λ below _ _. rw below (h.0, with_value-above m n v ps lt h.1)) (λ ge e _. rw (ge, e) (lt, h.1)) (λ ge ne _. rw (ge, ne) (lt, h))

  -- what all are above a greater number, they are above a smaller one
  AreAbove-lower : (m n : ℕ) (pairs : List (ℕ × V)) → m < n → AreAbove n pairs → AreAbove m pairs
  AreAbove-lower m n [] lt h = tt
  AreAbove-lower m n (p ∷ ps) lt h = (omega (arith, h.0), AreAbove-lower m n ps lt h.1)

  pub put_rising : (n : ℕ) (v : V) (pairs : List (ℕ × V)) → IsRising pairs → IsRising (with_value n v pairs)
  put_rising n v [] h = (tt, tt)
  put_rising n v (p ∷ ps) h =
      by_order p.0 n (λ below _ lt. rw below (with_value-above p.0 n v ps lt h.0, put_rising n v ps h.1))
      (λ ge e same. rw (ge, e) (let P : ℕ → Type 0 = λ k. AreAbove k ps in subst P same h.0, h.1))
      (λ ge ne gt. rw (ge, ne) ((gt, AreAbove-lower n p.0 ps gt h.0), h))

  -- a number that was cut isn't there
  pub cut_here : (n : ℕ) (pairs : List (ℕ × V)) → IsRising pairs → value_at n (without n pairs) ≡ None
  cut_here n [] h = refl
  cut_here n (p ∷ ps) h =
      by_order p.0 n (λ _ ne _. rw ne (rw ne (cut_here n ps h.1)))
      (λ _ e same. let le : n ≤ p.0 = omega arith in rw e (value_at-above p.0 n ps h.0 le)) (λ _ ne _. rw ne (rw ne (cut_here n ps h.1)))

  -- what stands under another number stays
  pub cut_elsewhere : (m n : ℕ) (pairs : List (ℕ × V)) → m ≢ n → value_at m (without n pairs) ≡ value_at m pairs
  cut_elsewhere m n [] h = refl
  cut_elsewhere m n (p ∷ ps) h =
      let unchanged : value_at m (p ∷ without n ps) ≡ value_at m (p ∷ ps) = ap (λ o. if p.0 == m then Some p.1 else o) (cut_elsewhere m n ps h) in
      by_order p.0 n (λ _ ne _. rw ne unchanged) (λ _ e same. let ne : (p.0 == m) ≡ false = rw (← same) at (other_tells m n h) in rw (e, ne) refl) (λ _ ne _. rw ne unchanged)

  -- what is left is above what all were above
  without-above : (m n : ℕ) (pairs : List (ℕ × V)) → AreAbove m pairs → AreAbove m (without n pairs)
  without-above m n [] h = tt
  without-above m n (p ∷ ps) h =
      let preserved : AreAbove m (p ∷ without n ps) = (h.0, without-above m n ps h.1) in
      by_order p.0 n (λ _ ne _. rw ne preserved) (λ _ e _. rw e h.1) (λ _ ne _. rw ne preserved)

  pub cut_rising : (n : ℕ) (pairs : List (ℕ × V)) → IsRising pairs → IsRising (without n pairs)
  cut_rising n [] h = tt
  cut_rising n (p ∷ ps) h =
      let preserved : IsRising (p ∷ without n ps) = (without-above p.0 n ps h.0, cut_rising n ps h.1) in
      by_order p.0 n (λ _ ne _. rw ne preserved) (λ _ e _. rw e h.1) (λ _ ne _. rw ne preserved)

pub map_laws : {V : Type 0} → MapLaws V
map_laws = record {
  put_here = put_here;
  put_elsewhere = put_elsewhere;
  put_rising = put_rising;
  cut_here = cut_here;
  cut_elsewhere = cut_elsewhere;
  cut_rising = cut_rising;
}
