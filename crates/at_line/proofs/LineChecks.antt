-- Checks that lines which are written out pass where their places rise and their threads are in turn.
use Rattle.std.proofs.Common.{◌≡◌, ◌∙◌, eq-eqb, inl, inr, ℕ, ◌<◌, ◌≤◌, ◌==◌, cond, leb, ltb, not, ◌&&◌, ◌||◌, Bool, true, false, List, [], ◌∷◌, refl, sym, arith}
use Rattle.std.specs.List.{list_all}
use Rattle.std.specs.Prelude.{All, AllPairs}
use Rattle.std.proofs.lemmas.Bool.{and_parts, or_cases, leb-true, ltb-true, true≢false}
use Rattle.std.proofs.lemmas.Bool.Decides.{nat_tests}
use Rattle.std.proofs.lemmas.List.Elements.{All-nil, All-cons}
use Rattle.std.proofs.lemmas.List.Kept.{AllPairs-cons}
use Rattle.at_line.specs.declared.line.Line.{Line}
use Rattle.at_line.specs.declared.line.What as what
use Rattle.at_line.specs.declared.line.What.TheVariants as whats
use Rattle.at_line.specs.Lines.{main_thread, finally_thread, is_write_line}
use Rattle.at_line.specs.Legal.{IsPlacedAfter, IsPlacedAfterInThread, IsPlacedFrom, RunsAfter, IsInTurn, AreRising, AreInTurn}
use Rattle.at_line.proofs.Each.{each_after-from_pairs}

-- where each element passes a test that tells P, P holds of each
all_tested : (P : Line → Type 0) (test : Line → Bool) → ((line : Line) → test line ≡ true → P line) → (lines : List Line) → list_all test lines ≡ true → All P lines
all_tested P test tells [] passed = All-nil P
all_tested P test tells (line ∷ lines) passed =
    let both = and_parts (test line) (list_all test lines) passed in
    All-cons P line lines (tells line both.0) (all_tested P test tells lines both.1)

-- Rising places

abbrev pub placed_after : what.What → what.What → Bool
placed_after (whats.Did first first_path first_operation first_reply) (whats.Did second path operation reply) =
    cond (is_write_line (whats.Did second path operation reply)) (ltb first.0 second.0) (leb first.0 second.0)
placed_after first second = true

placed_after_tells : (first second : what.What) → placed_after first second ≡ true → IsPlacedAfter first second
placed_after_tells (whats.Local local) (whats.Local other) passed = tt
placed_after_tells (whats.Local local) (whats.Did second path operation reply) passed = tt
placed_after_tells (whats.Did first first_path first_operation first_reply) (whats.Local local) passed = tt
placed_after_tells (whats.Did first first_path first_operation first_reply) (whats.Did second path operation reply) passed =
    by_test (is_write_line (whats.Did second path operation reply)) passed
  where
    by_test : (written : Bool) → cond written (ltb first.0 second.0) (leb first.0 second.0) ≡ true → (first.0 ≤ second.0) × (written ≡ true → first.0 < second.0)
    by_test true less = let below = ltb-true first.0 second.0 less in (omega arith, λ _. below)
    by_test false less = (leb-true first.0 second.0 less, λ wrote. absurd (true≢false (sym wrote)))

abbrev pub rises : Line → Line → Bool
rises first second = not (first.thread == second.thread) || placed_after first.what second.what

rises_tells : (first second : Line) → rises first second ≡ true → IsPlacedAfterInThread first second
rises_tells first second passed = by_test (first.thread == second.thread) refl passed
  where
    by_test : (same : Bool) → (first.thread == second.thread) ≡ same → (not same || placed_after first.what second.what) ≡ true → IsPlacedAfterInThread first second
    by_test true is more = λ _. placed_after_tells first.what second.what more
    by_test false is more = λ same. absurd (true≢false (sym (eq-eqb first.thread second.thread same) ∙ is))

abbrev pub all_rise : List Line → Bool
all_rise [] = true
all_rise (line ∷ lines) = list_all (rises line) lines && all_rise lines

pairs_rise : (lines : List Line) → all_rise lines ≡ true → AllPairs IsPlacedAfterInThread lines
pairs_rise [] passed = λ i j d before within. absurd (omega arith)
pairs_rise (line ∷ lines) passed =
    let both = and_parts (list_all (rises line) lines) (all_rise lines) passed in
    AllPairs-cons IsPlacedAfterInThread line lines (all_tested (IsPlacedAfterInThread line) (rises line) (rises_tells line) lines both.0) (pairs_rise lines both.1)

pub are_rising : (lines : List Line) → all_rise lines ≡ true → AreRising lines
are_rising lines passed = each_after-from_pairs IsPlacedAfterInThread lines (pairs_rise lines passed)

-- Threads in turn

abbrev pub placed_from : what.What → what.What → Bool
placed_from (whats.Did first first_path first_operation first_reply) (whats.Did second path operation reply) = leb first.0 second.0
placed_from first second = true

placed_from_tells : (first second : what.What) → placed_from first second ≡ true → IsPlacedFrom first second
placed_from_tells (whats.Local local) (whats.Local other) passed = tt
placed_from_tells (whats.Local local) (whats.Did second path operation reply) passed = tt
placed_from_tells (whats.Did first first_path first_operation first_reply) (whats.Local local) passed = tt
placed_from_tells (whats.Did first first_path first_operation first_reply) (whats.Did second path operation reply) passed = leb-true first.0 second.0 passed

-- the second thread doesn't wait for the first
abbrev pub runs_beside : ℕ → ℕ → Bool
runs_beside first second = (second == main_thread) || ((first == finally_thread) || not ((first == main_thread) || (second == finally_thread)))

runs_beside_tells : (first second : ℕ) → runs_beside first second ≡ true → RunsAfter first second → ⊥
runs_beside_tells first second passed after = grind (arith, nat_tests)

abbrev pub in_turn : Line → Line → Bool
in_turn first second = runs_beside first.thread second.thread || placed_from first.what second.what

in_turn_tells : (first second : Line) → in_turn first second ≡ true → RunsAfter first.thread second.thread → IsPlacedFrom first.what second.what
in_turn_tells first second passed after =
    elim (or_cases (runs_beside first.thread second.thread) (placed_from first.what second.what) passed) [
      | inl beside ↦ absurd (runs_beside_tells first.thread second.thread beside after)
      | inr from ↦ placed_from_tells first.what second.what from
    ]

abbrev InTurn : Line → Line → Type 0
InTurn second first = RunsAfter first.thread second.thread → IsPlacedFrom first.what second.what

pub are_in_turn : (lines : List Line) → list_all (λ second. list_all (λ first. in_turn first second) lines) lines ≡ true → AreInTurn lines
are_in_turn lines passed =
    all_tested (IsInTurn lines) (λ second. list_all (λ first. in_turn first second) lines)
    (λ second all. all_tested (InTurn second) (λ first. in_turn first second) (λ first one. in_turn_tells first second one) lines all) lines passed
