use Rattle.std.proofs.Common.{◌≡◌, ℕ, zero, suc, Some, refl, subst, lit≤, rules, slice_get, List}
use Rattle.std.proofs.lemmas.Bool.{true≢false, false≢true}
use Rattle.std.proofs.lemmas.List.Elements.{All-from_recursion}
use Rattle.at_line.specs.declared.line.Line.{Line}
use Rattle.at_line.specs.Kept.{whats_of_thread}
use Rattle.at_line.specs.Legal.{IsWriteTrue, IsReadTrue, IsKeptAlone, IsLimitMet, AreWritesTrue, AreReadsTrue, AreLimitsMet}
use Rattle.at_line.specs.Lines.{finally_thread, write_count, IsHistory}
use Rattle.at_line.proofs.LineChecks.{are_rising, are_in_turn}
use Rattle.at_script.specs.declared.stmt.Stmt as stmt
use Rattle.at_thread.specs.Execution.{Variables}
use Rattle.at_thread.specs.Runs.{Executes, IsRunOf}
use Rattle.at_value.specs.ProgramLimits.{program_limits}
use Rattle.at_run.specs.Opening.{opening_of}
use Rattle.at_run.specs.RunExamples.{example_script, example_history, interleaved_lines, first_block, second_block, last_block}
use Rattle.at_run.proofs.RunChecks.{bound, both_bound, main_runs, first_runs_beside, second_runs, last_runs}
use Rattle.at_run.proofs.examples.interleaved_example.Goals as goal

threads : (i : ℕ) (block : List stmt.Stmt) → slice_get example_script.threads i ≡ Some block → (after : Variables) × Executes example_script block bound (whats_of_thread (suc i) interleaved_lines) after
threads zero block is = let same : first_block ≡ block = cc in (both_bound, subst (λ b. Executes example_script b bound (whats_of_thread 1 interleaved_lines) both_bound) same first_runs_beside)
threads (suc zero) block is = let same : second_block ≡ block = cc in (bound, subst (λ b. Executes example_script b bound (whats_of_thread 2 interleaved_lines) bound) same second_runs)
threads (suc (suc i)) block is = absurd cc

finally : (block : List stmt.Stmt) → example_script.finally ≡ Some block → (after : Variables) × Executes example_script block bound (whats_of_thread finally_thread interleaved_lines) after
finally block is = let same : last_block ≡ block = cc in (bound, subst (λ b. Executes example_script b bound (whats_of_thread finally_thread interleaved_lines) bound) same last_runs)

runs : IsRunOf example_script interleaved_lines
runs = record { order = refl; variables = bound; main = main_runs; threads = threads; finally = finally; no_finally = λ none. absurd cc }

pub returns-clause-runs : goal.returns-clause-runs
returns-clause-runs c = record { order = refl; variables = bound; main = main_runs; threads = threads; finally = finally; no_finally = λ none. absurd cc }

places : IsHistory interleaved_lines example_history
places = search rules

writes_true : AreWritesTrue (opening_of example_script) example_history interleaved_lines
writes_true =
    All-from_recursion (λ (line : Line). IsWriteTrue (opening_of example_script) example_history line.what) interleaved_lines
    (λ _. (refl, refl), (λ _. (refl, refl), (tt, (λ _. (refl, refl), (tt, (λ wrote. absurd (false≢true wrote), (λ _. (refl, refl), (tt, (λ wrote. absurd (false≢true wrote), tt)))))))))

reads_true : AreReadsTrue (opening_of example_script) example_history interleaved_lines
reads_true =
    All-from_recursion (λ (line : Line). IsReadTrue (opening_of example_script) example_history (write_count interleaved_lines) line.what × IsKeptAlone line.thread line.what) interleaved_lines (
      (λ reads. absurd (true≢false reads), tt),
      (
        (λ reads. absurd (true≢false reads), tt),
        (
          (lit≤ tt, tt),
          (
            (λ reads. absurd (true≢false reads), tt),
            ((lit≤ tt, λ _. refl), ((λ _. (lit≤ tt, refl, refl), tt), ((λ reads. absurd (true≢false reads), tt), ((tt, tt), ((λ _. (lit≤ tt, refl, refl), tt), tt))))),
          ),
        ),
      ),
    )

limits_met : AreLimitsMet program_limits interleaved_lines
limits_met = All-from_recursion (λ (line : Line). IsLimitMet program_limits 4 9 line.what) interleaved_lines (tt, (tt, (tt, (tt, (tt, (tt, (tt, (tt, (tt, tt)))))))))

pub returns-clause-linearized : goal.returns-clause-linearized
returns-clause-linearized c = record {
  places = places;
  writes = writes_true;
  reads = reads_true;
  rising = are_rising interleaved_lines refl;
  turns = are_in_turn interleaved_lines refl;
  limits_met = limits_met;
}
