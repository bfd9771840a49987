-- Parts of a list in its order.
use Rattle.std.proofs.Common.{◌≡◌, ◌∙◌, refl, subst, ℕ, ◌≤◌, ◌==◌, inl, inr, length, List, [], ◌∷◌, true, arith}
use Rattle.std.proofs.lemmas.Bool.{or_cases, or_left, or_right, false≢true}
use Rattle.at_c3.specs.Laws.{IsSubsequence}
use Rattle.at_c3.proofs.NumberLemmas.{has}

pub subsequence-length : (xs ys : List ℕ) → IsSubsequence xs ys → length xs ≤ length ys
subsequence-length [] ys is = omega arith
subsequence-length (x ∷ xs) [] is = absurd is
subsequence-length (x ∷ xs) (y ∷ ys) is =
    elim is [
      | inl both ↦ let shorter : length xs ≤ length ys = subsequence-length xs ys both.1 in omega arith
      | inr later ↦ let shorter : length (x ∷ xs) ≤ length ys = subsequence-length (x ∷ xs) ys later in omega arith
    ]

pub subsequence-more : (xs : List ℕ) (y : ℕ) (ys : List ℕ) → IsSubsequence xs ys → IsSubsequence xs (y ∷ ys)
subsequence-more [] y ys is = tt
subsequence-more (x ∷ xs) y ys is = inr is

pub subsequence-self : (xs : List ℕ) → IsSubsequence xs xs
subsequence-self [] = tt
subsequence-self (x ∷ xs) = inl (refl, subsequence-self xs)

pub subsequence-trans : (xs ys zs : List ℕ) → IsSubsequence xs ys → IsSubsequence ys zs → IsSubsequence xs zs
subsequence-trans [] ys zs is more = tt
subsequence-trans (x ∷ xs) [] zs is more = absurd is
subsequence-trans (x ∷ xs) (y ∷ ys) [] is more = absurd more
subsequence-trans (x ∷ xs) (y ∷ ys) (z ∷ zs) is more =
    elim more [
      | inl here ↦
          elim is [
            | inl both ↦ inl (both.0 ∙ here.0, subsequence-trans xs ys zs both.1 here.1)
            | inr later ↦ inr (subsequence-trans (x ∷ xs) ys zs later here.1)
          ]
      | inr later ↦ inr (subsequence-trans (x ∷ xs) (y ∷ ys) zs is later)
    ]

-- the whole has what a part has
pub subsequence-has : (n : ℕ) (xs ys : List ℕ) → IsSubsequence xs ys → has n xs ≡ true → has n ys ≡ true
subsequence-has n [] ys is at = absurd (false≢true at)
subsequence-has n (x ∷ xs) [] is at = absurd is
subsequence-has n (x ∷ xs) (y ∷ ys) is at =
    elim is [
      | inl both ↦
          elim (or_cases (x == n) (has n xs) at) [
            | inl here ↦ or_left (y == n) (has n ys) (subst (λ z. (z == n) ≡ true) both.0 here)
            | inr later ↦ or_right (y == n) (has n ys) (subsequence-has n xs ys both.1 later)
          ]
      | inr later ↦ or_right (y == n) (has n ys) (subsequence-has n (x ∷ xs) ys later at)
    ]
