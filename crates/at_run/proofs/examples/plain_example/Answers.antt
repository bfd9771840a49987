use Rattle.std.proofs.Common.{◌≡◌, ℕ, zero, suc, Some, refl, subst, slice_get, List}
use Rattle.std.proofs.lemmas.List.Elements.{All-from_recursion}
use Rattle.at_line.specs.declared.line.Line.{Line}
use Rattle.at_line.specs.Kept.{whats_of_thread}
use Rattle.at_line.specs.Lines.{finally_thread}
use Rattle.at_line.specs.Paths.{IsLocked}
use Rattle.at_script.specs.declared.stmt.Stmt as stmt
use Rattle.at_thread.specs.Execution.{Variables}
use Rattle.at_thread.specs.Runs.{Executes, IsRunOf}
use Rattle.at_run.specs.PlainRun.{IsUndisturbed}
use Rattle.at_run.specs.RunExamples.{example_script, example_history, plain_lines, first_block, second_block, last_block}
use Rattle.at_run.proofs.RunChecks.{bound, both_bound, main_runs, first_runs, second_runs, last_runs}
use Rattle.at_run.proofs.examples.plain_example.Goals as goal

threads : (i : ℕ) (block : List stmt.Stmt) → slice_get example_script.threads i ≡ Some block → (after : Variables) × Executes example_script block bound (whats_of_thread (suc i) plain_lines) after
threads zero block is = let same : first_block ≡ block = cc in (both_bound, subst (λ b. Executes example_script b bound (whats_of_thread 1 plain_lines) both_bound) same first_runs)
threads (suc zero) block is = let same : second_block ≡ block = cc in (bound, subst (λ b. Executes example_script b bound (whats_of_thread 2 plain_lines) bound) same second_runs)
threads (suc (suc i)) block is = absurd cc

finally : (block : List stmt.Stmt) → example_script.finally ≡ Some block → (after : Variables) × Executes example_script block bound (whats_of_thread finally_thread plain_lines) after
finally block is = let same : last_block ≡ block = cc in (bound, subst (λ b. Executes example_script b bound (whats_of_thread finally_thread plain_lines) bound) same last_runs)

runs : IsRunOf example_script plain_lines
runs = record { order = refl; variables = bound; main = main_runs; threads = threads; finally = finally; no_finally = λ none. absurd cc }

pub returns : goal.returns
returns c = record {
  serial_run = record {
    runs = runs;
    history = example_history;
    serial = (refl, (refl, (refl, (refl, (refl, (refl, (refl, (refl, (refl, (refl, (refl, (refl, (refl, (refl, refl))))))))))))));
    undisturbed = All-from_recursion (λ (line : Line). IsUndisturbed line.what) plain_lines (tt, (tt, (tt, (tt, (refl, (tt, (tt, (tt, (tt, tt)))))))));
    ends = refl;
  };
  locked = All-from_recursion (λ (line : Line). IsLocked line.what) plain_lines (refl, (refl, (refl, (refl, (refl, (refl, (refl, (tt, (refl, tt)))))))));
}
