-- The letters, digits and `_` at the front of a text.
use Rattle.std.proofs.Common.{◌≡◌, ◌∙◌, ap, refl, subst, ℕ, ◌+◌, ◌<◌, ◌≤◌, arith, List, [], ◌∷◌, length, take, drop, Bool, true, false, cond, not, ◌&&◌, ltb, Some, None, one-add}
use Rattle.std.specs.List.{list_all, position, prefix_len}
use Rattle.std.specs.Str.{IsAscii, IsUtf8}
use Rattle.std.proofs.lemmas.Str.{IsUtf8-from_ascii}
use Rattle.std.proofs.lemmas.Str.Ascii.{IsAscii-nil, IsAscii-cons}
use Rattle.std.proofs.lemmas.Option.{cond_some}
use Rattle.std.proofs.lemmas.Bool.{ltb-false}
use Rattle.std.proofs.lemmas.Bool.Decides.{nat_tests}
use Rattle.at_script.specs.Words.{continues_identifier}
use Rattle.at_text.specs.Readers.{run, past_run}

none_at : (n m : ℕ) → cond (ltb n m) (Some n) None ≡ None → m ≤ n
none_at n m =
    elim (ltb n m) as (λ b. (ltb n m ≡ b) → cond b (Some n) None ≡ None → m ≤ n) [
      | true ↦ λ e h. cc
      | false ↦ λ e h. ltb-false n m e
    ] refl

abbrev goes_on : ℕ → Bool
goes_on byte = not (not (continues_identifier byte))

front : (xs : List ℕ) → (take (prefix_len goes_on xs) xs ≡ run xs) × (drop (prefix_len goes_on xs) xs ≡ past_run xs)
front [] = (refl, refl)
front (x ∷ xs) =
    elim (continues_identifier x) as (λ b. (take (cond (not (not b)) (1 + prefix_len goes_on xs) 0) (x ∷ xs) ≡ cond b (x ∷ run xs) []) × (drop (cond (not (not b)) (1 + prefix_len goes_on xs) 0) (x ∷ xs) ≡ cond b (past_run xs) (x ∷ xs))) [
      | true ↦ (rw one-add (ap (λ l. x ∷ l) (front xs).0), rw one-add (front xs).1)
      | false ↦ (refl, refl)
    ]

-- the first byte that ends a name tells where
pub run_at : (xs : List ℕ) (i : ℕ) → position (λ byte. not (continues_identifier byte)) xs ≡ Some i → (take i xs ≡ run xs) × (drop i xs ≡ past_run xs)
run_at xs i h =
    let k = cond_some (ltb (prefix_len goes_on xs) (length xs)) (prefix_len goes_on xs) i h in
    subst (λ n. (take n xs ≡ run xs) × (drop n xs ≡ past_run xs)) k.1 (front xs)

whole_run : (xs : List ℕ) → length xs ≤ prefix_len goes_on xs → (xs ≡ run xs) × ([] ≡ past_run xs)
whole_run [] h = (refl, refl)
whole_run (x ∷ xs) h =
    elim (continues_identifier x) as (λ b. length (x ∷ xs) ≤ cond (not (not b)) (1 + prefix_len goes_on xs) 0 → (x ∷ xs ≡ cond b (x ∷ run xs) []) × ([] ≡ cond b (past_run xs) (x ∷ xs))) [
      | true ↦ λ h. let k = whole_run xs (omega arith) in (ap (λ l. x ∷ l) k.0, k.1)
      | false ↦ λ h. absurd (omega arith)
    ] h

-- where no byte does, all are of the name
pub run_nowhere : (xs : List ℕ) → position (λ byte. not (continues_identifier byte)) xs ≡ None → (xs ≡ run xs) × ([] ≡ past_run xs)
run_nowhere xs h = whole_run xs (none_at (prefix_len goes_on xs) (length xs) h)

pub run_continues : (xs : List ℕ) → list_all continues_identifier (run xs) ≡ true
run_continues [] = refl
run_continues (x ∷ xs) =
    elim (continues_identifier x) as (λ b. continues_identifier x ≡ b → list_all continues_identifier (cond b (x ∷ run xs) []) ≡ true) [
      | true ↦ λ e. ap (λ b. b && list_all continues_identifier (run xs)) e ∙ run_continues xs
      | false ↦ λ e. refl
    ] refl

pub run_again : (xs : List ℕ) → run (run xs) ≡ run xs
run_again [] = refl
run_again (x ∷ xs) =
    elim (continues_identifier x) as (λ b. continues_identifier x ≡ b → run (cond b (x ∷ run xs) []) ≡ cond b (x ∷ run xs) []) [
      | true ↦ λ e. ap (λ b. cond b (x ∷ run (run xs)) []) e ∙ ap (λ l. x ∷ l) (run_again xs)
      | false ↦ λ e. refl
    ] refl

continues_ascii : (b : ℕ) → continues_identifier b ≡ true → b < 128
continues_ascii b h = grind (arith, nat_tests)

run_ascii : (xs : List ℕ) → IsAscii (run xs)
run_ascii [] = IsAscii-nil
run_ascii (x ∷ xs) =
    elim (continues_identifier x) as (λ b. continues_identifier x ≡ b → IsAscii (cond b (x ∷ run xs) [])) [
      | true ↦ λ e. IsAscii-cons x (run xs) (continues_ascii x e) (run_ascii xs)
      | false ↦ λ e. IsAscii-nil
    ] refl

pub run_utf8 : (xs : List ℕ) → IsUtf8 (run xs)
run_utf8 xs = IsUtf8-from_ascii (run xs) (run_ascii xs)
