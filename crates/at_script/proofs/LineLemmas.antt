-- Where a byte first stands, and the lines of a text.
use Rattle.std.proofs.Common.{◌≡◌, ◌∙◌, ap, refl, sym, ℕ, suc, ◌==◌, ◌+◌, ◌<◌, ◌≤◌, List, [], ◌∷◌, length, take, drop, arith, Bool, true, false, cond, not, ltb, Option, Some, None}
use Rattle.std.specs.List.{position, position_or_len, prefix_len, onto_first}
use Rattle.std.proofs.lemmas.Bool.{lt-ltb, le-ltb, ltb-true, false_from_ne_true}
use Rattle.std.proofs.lemmas.Option.{cond_some}
use Rattle.at_script.proofs.Cuts.{none_at}
use Rattle.std.proofs.lemmas.List.Sums.{position_or_len_is}
use Rattle.memchr.specs.Find.{IsFirstByte, is_byte}
use Rattle.at_script.specs.Bytes.{newline}
use Rattle.at_script.specs.Lines.{lines_of}

-- the place at which a search ends
found : (p : ℕ → Bool) (xs : List ℕ) (i : ℕ) → position_or_len p xs ≡ i → i < length xs → position p xs ≡ Some i
found p xs i e h = rw (e, lt-ltb i (length xs) h) refl

found_nowhere : (p : ℕ → Bool) (xs : List ℕ) → position_or_len p xs ≡ length xs → position p xs ≡ None
found_nowhere p xs e = rw (e, le-ltb (length xs) (length xs) (omega arith)) refl

pub place_is : (byte : ℕ) (xs : List ℕ) (r : Option ℕ) → IsFirstByte (is_byte byte) xs r → r ≡ position (λ b. b == byte) xs
place_is byte xs None h =
    sym (found_nowhere (is_byte byte) xs (position_or_len_is (is_byte byte) xs (length xs) 0 (omega arith) (λ k lt. false_from_ne_true _ (h k (omega arith) lt)) (λ lt. absurd (omega arith))))
place_is byte xs (Some k) h =
    sym (found (is_byte byte) xs k (position_or_len_is (is_byte byte) xs k 0 (let high = h.0.high in omega arith) (λ j lt. false_from_ne_true _ (h.0.before j (omega arith) lt)) (λ lt. h.1)) h.0.high)

-- A line ends with the first newline, or with the text.

abbrev is_newline : ℕ → Bool
is_newline byte = byte == newline

-- where the first newline stands, or the end
abbrev first_end : List ℕ → ℕ
first_end xs = position_or_len is_newline xs

lines_at : (xs : List ℕ) → first_end xs < length xs → lines_of xs ≡ take (first_end xs + 1) xs ∷ lines_of (drop (first_end xs + 1) xs)
lines_at [] h = absurd (omega arith)
lines_at (x ∷ xs) h =
    let m = prefix_len (λ y. not (is_newline y)) xs in
    elim (is_newline x) as (λ b. cond (not b) (1 + m) 0 < length (x ∷ xs) → cond b ((x ∷ []) ∷ lines_of xs) (onto_first x (lines_of xs)) ≡ take (cond (not b) (1 + m) 0 + 1) (x ∷ xs) ∷ lines_of (drop (cond (not b) (1 + m) 0 + 1) (x ∷ xs))) [
      | true ↦ λ h. refl
      | false ↦ λ h. let e : 1 + m + 1 ≡ suc (m + 1) = omega arith in rw e (ap (onto_first x) (lines_at xs (omega arith)))
    ] h

lines_whole : (x : ℕ) (xs : List ℕ) → length (x ∷ xs) ≤ first_end (x ∷ xs) → lines_of (x ∷ xs) ≡ (x ∷ xs) ∷ []
lines_whole x [] h =
    elim (is_newline x) as (λ b. 1 ≤ cond (not b) 1 0 → cond b ((x ∷ []) ∷ []) (onto_first x []) ≡ (x ∷ []) ∷ []) [
      | true ↦ λ h. refl
      | false ↦ λ h. refl
    ] h
lines_whole x (y ∷ ys) h =
    let m = first_end (y ∷ ys) in
    elim (is_newline x) as (λ b. length (x ∷ y ∷ ys) ≤ cond (not b) (1 + m) 0 → cond b ((x ∷ []) ∷ lines_of (y ∷ ys)) (onto_first x (lines_of (y ∷ ys))) ≡ (x ∷ y ∷ ys) ∷ []) [
      | true ↦ λ h. absurd (omega arith)
      | false ↦ λ h. ap (onto_first x) (lines_whole y ys (omega arith))
    ] h

-- the first line ends with the newline that was found
pub first_line_at : (xs : List ℕ) (i : ℕ) → position (λ b. b == newline) xs ≡ Some i → lines_of xs ≡ take (i + 1) xs ∷ lines_of (drop (i + 1) xs)
first_line_at xs i h =
    let k = cond_some (ltb (first_end xs) (length xs)) (first_end xs) i h in
    lines_at xs (ltb-true _ _ k.0) ∙ ap (λ n. take (n + 1) xs ∷ lines_of (drop (n + 1) xs)) k.1

pub first_line_whole : (xs : List ℕ) → 0 < length xs → position (λ b. b == newline) xs ≡ None → lines_of xs ≡ xs ∷ []
first_line_whole [] more h = absurd (omega arith)
first_line_whole (x ∷ xs) more h = lines_whole x xs (none_at (first_end (x ∷ xs)) (length (x ∷ xs)) h)

-- a place that was found is in the list
pub found_within : (p : ℕ → Bool) (xs : List ℕ) (i : ℕ) → position p xs ≡ Some i → i < length xs
found_within p xs i h =
    let k = cond_some (ltb (position_or_len p xs) (length xs)) (position_or_len p xs) i h in
    let lt = ltb-true _ _ k.0 in
    omega (arith, k.1)
