-- Own names that are sorted by their bytes, and then by their numbers, are as they were.
use Rattle.std.proofs.Common.{◌≡◌, ◌≢◌, ◌∙◌, ap, refl, sym, ℕ, ◌<◌, ◌==◌, nat_lt, arith, List, [], ◌∷◌, Bool, true, false, cond}
use Rattle.std.specs.Ordering.{nat_cmp, is_lt}
use Rattle.std.specs.Cmp.Lexicographic.{slice_cmp}
use Rattle.std.proofs.lemmas.Bool.Decides.{nat_tests}
use Rattle.at_value.specs.Pairs.{with_value, AreAbove, IsRising}
use Rattle.at_value.specs.Types.{Value}
use Rattle.at_value.proofs.Maps.{by_order, below_tells}
use Rattle.at_script.specs.Parts.{ScriptParts}
use Rattle.at_text.specs.Values.{text_at}
use Rattle.at_text.specs.Last.{inserted, by_bytes}
use Rattle.at_text.specs.ReadLast.{by_number}

-- what the tests answer where the first number is above the second
above_tells : (m n : ℕ) → n < m → (nat_lt m n ≡ false) × ((m == n) ≡ false)
above_tells m n h = (grind (arith, nat_tests), grind (arith, nat_tests))

-- values that are put under two numbers may be put in either order
module _ {V : Type 0} where
  put_both-nil : (m n : ℕ) (v w : V) → m ≢ n → with_value m v (with_value n w []) ≡ with_value n w (with_value m v [])
  put_both-nil m n v w apart =
      by_order m n (λ lt ne h. let t = above_tells n m h in simp (lt, ne, t.0, t.1) refl) (λ ge e same. absurd (apart same)) (λ ge ne h. let t = below_tells n m h in simp (ge, ne, t.0, t.1) refl)

  pub put_both : (m n : ℕ) (v w : V) (pairs : List (ℕ × V)) → m ≢ n → with_value m v (with_value n w pairs) ≡ with_value n w (with_value m v pairs)
  put_both m n v w [] apart = put_both-nil m n v w apart
  put_both m n v w (p ∷ ps) apart =
      by_order p.0 m
      (λ lm em pm. by_order p.0 n
      (λ ln en pn. simp (lm, em, ln, en) (ap (λ l. p ∷ l) (put_both m n v w ps apart)))
      (λ ln en pn. let t = below_tells n m (omega arith) in simp (lm, em, ln, en, t.0, t.1) refl)
      (λ ln en pn. let t = below_tells n m (omega arith) in simp (lm, em, ln, en, t.0, t.1) refl))
      (λ lm em pm. by_order p.0 n
      (λ ln en pn. let t = below_tells m n (omega arith) in simp (lm, em, ln, en, t.0, t.1) refl)
      (λ ln en pn. absurd (apart (sym pm ∙ pn)))
      (λ ln en pn. let t = below_tells n m (omega arith) in let u = above_tells m n (omega arith) in simp (lm, em, ln, en, t.0, t.1, u.0, u.1) refl))
      (λ lm em pm. by_order p.0 n
      (λ ln en pn. let t = below_tells m n (omega arith) in simp (lm, em, ln, en, t.0, t.1) refl)
      (λ ln en pn. let t = below_tells m n (omega arith) in let u = above_tells n m (omega arith) in simp (lm, em, ln, en, t.0, t.1, u.0, u.1) refl)
      (λ ln en pn. by_order m n
      (λ lt ne h. let t = above_tells n m h in simp (lm, em, ln, en, lt, ne, t.0, t.1) refl)
      (λ ge e same. absurd (apart same))
      (λ ge ne h. let t = below_tells n m h in simp (lm, em, ln, en, ge, ne, t.0, t.1) refl)))

-- the number is that of none
AreOther : ℕ → List (ℕ × Value) → Type 0
AreOther n [] = Unit {0}
AreOther n (pair ∷ pairs) = (n ≢ pair.0) × AreOther n pairs

module _ (s : ScriptParts) where
  abbrev comes_first : ℕ × Value → ℕ × Value → Bool
  comes_first next pair = is_lt (slice_cmp nat_cmp (text_at s.names next.0) (text_at s.names pair.0))

  others_inserted : (n : ℕ) (pair : ℕ × Value) (pairs : List (ℕ × Value)) → n ≢ pair.0 → AreOther n pairs → AreOther n (inserted s pair pairs)
  unfolding AreOther
  others_inserted n pair [] other all = (other, tt)
  others_inserted n pair (next ∷ rest) other all =
      elim (comes_first next pair) as (λ b. AreOther n (cond b (next ∷ inserted s pair rest) (pair ∷ next ∷ rest))) [
        | true ↦ (all.0, others_inserted n pair rest other all.1)
        | false ↦ (other, all)
      ]

  others_sorted : (n : ℕ) (pairs : List (ℕ × Value)) → AreAbove n pairs → AreOther n (by_bytes s pairs)
  unfolding AreOther
  others_sorted n [] above = tt
  others_sorted n (pair ∷ pairs) above = others_inserted n pair (by_bytes s pairs) (λ same. absurd (omega (arith, above.0, same))) (others_sorted n pairs above.1)

  numbers_inserted : (pair : ℕ × Value) (pairs : List (ℕ × Value)) → AreOther pair.0 pairs → by_number (inserted s pair pairs) ≡ with_value pair.0 pair.1 (by_number pairs)
  unfolding AreOther
  numbers_inserted pair [] other = refl
  numbers_inserted pair (next ∷ rest) other =
      elim (comes_first next pair) as (λ b. by_number (cond b (next ∷ inserted s pair rest) (pair ∷ next ∷ rest)) ≡ with_value pair.0 pair.1 (by_number (next ∷ rest))) [
        | true ↦ ap (with_value next.0 next.1) (numbers_inserted pair rest other.1) ∙ put_both next.0 pair.0 next.1 pair.1 (by_number rest) (λ same. other.0 (sym same))
        | false ↦ refl
      ]

  put_below : (pair : ℕ × Value) (pairs : List (ℕ × Value)) → AreAbove pair.0 pairs → with_value pair.0 pair.1 pairs ≡ pair ∷ pairs
  put_below pair [] above = refl
  put_below pair (next ∷ rest) above = let t = above_tells next.0 pair.0 above.0 in rw (t.0, t.1) refl

  pub numbers_back : (own : List (ℕ × Value)) → IsRising own → by_number (by_bytes s own) ≡ own
  numbers_back [] rising = refl
  numbers_back (pair ∷ pairs) rising =
      numbers_inserted pair (by_bytes s pairs) (others_sorted pair.0 pairs rising.0)
      ∙ ap (with_value pair.0 pair.1) (numbers_back pairs rising.1) ∙ put_below pair pairs rising.0
