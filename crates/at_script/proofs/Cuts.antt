-- Where a list is cut at the first element that passes a test.
use Rattle.std.proofs.Common.{◌≡◌, ◌∙◌, ap, refl, ℕ, ◌+◌, ◌≤◌, List, [], ◌∷◌, length, take, drop, arith, Bool, true, false, cond, not, ltb, Some, None}
use Rattle.std.specs.List.{slice_split, onto_first, position, position_or_len, prefix_len}
use Rattle.std.proofs.lemmas.List.Splits.{slice_split_first}
use Rattle.std.proofs.lemmas.Option.{cond_some}
use Rattle.std.proofs.lemmas.Bool.{ltb-true, ltb-false}

-- the first part ends where the test first passes
pub cut_at : (p : ℕ → Bool) (xs : List ℕ) (i : ℕ) → position p xs ≡ Some i → slice_split p xs ≡ take i xs ∷ slice_split p (drop (i + 1) xs)
cut_at p xs i h =
    let k = cond_some (ltb (position_or_len p xs) (length xs)) (position_or_len p xs) i h in
    let e : slice_split p xs ≡ take (position_or_len p xs) xs ∷ slice_split p (drop (position_or_len p xs + 1) xs) =
    slice_split_first p xs 0 (ltb-true _ _ k.0) in
    e ∙ ap (λ n. take n xs ∷ slice_split p (drop (n + 1) xs)) k.1

-- where no element passes, the list is the one part
whole_from : (p : ℕ → Bool) (xs : List ℕ) → length xs ≤ position_or_len p xs → slice_split p xs ≡ xs ∷ []
whole_from p [] h = refl
whole_from p (x ∷ xs) h =
    elim (p x) as (λ b. length (x ∷ xs) ≤ cond (not b) (1 + prefix_len (λ y. not (p y)) xs) 0 → cond b ([] ∷ slice_split p xs) (onto_first x (slice_split p xs)) ≡ (x ∷ xs) ∷ []) [
      | true ↦ λ h. absurd (omega arith)
      | false ↦ λ h. ap (onto_first x) (whole_from p xs (omega arith))
    ] h

pub none_at : (n m : ℕ) → cond (ltb n m) (Some n) None ≡ None → m ≤ n
none_at n m = elim (ltb n m) as (λ b. (ltb n m ≡ b) → cond b (Some n) None ≡ None → m ≤ n) [
  | true ↦ λ e h. cc
  | false ↦ λ e h. ltb-false n m e
] refl

pub cut_nowhere : (p : ℕ → Bool) (xs : List ℕ) → position p xs ≡ None → slice_split p xs ≡ xs ∷ []
cut_nowhere p xs h = whole_from p xs (none_at (position_or_len p xs) (length xs) h)
