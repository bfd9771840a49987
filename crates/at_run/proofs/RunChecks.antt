-- Executions of the blocks of the script that is written out.
use Rattle.std.proofs.Common.{◌≡◌, ◌∙◌, ℕ, List, [], ◌∷◌, None, Some, refl, sym, ap, subst}
use Rattle.at_value.specs.declared.value.Value.TheVariants as values
use Rattle.at_value.specs.declared.operation.Op.TheVariants as ops
use Rattle.at_value.specs.declared.reply.Reply as reply
use Rattle.at_value.specs.declared.reply.Reply.TheVariants as replies
use Rattle.at_line.specs.declared.line.Line.{Line}
use Rattle.at_line.specs.declared.line.What as what
use Rattle.at_line.specs.Lines.{main_thread}
use Rattle.at_line.specs.Kept.{whats_of_thread}
use Rattle.at_line.specs.LineExamples.{begins, does, makes_class, gets_five, gets_six, sets_five, sets_six, gives_seven, gives_eight}
use Rattle.at_line.specs.KeptExamples.{ends_kept}
use Rattle.at_script.specs.declared.stmt.Stmt as stmt
use Rattle.at_thread.specs.Execution.{Variables, ThreadState, start}
use Rattle.at_thread.specs.Executions.{IsExecution}
use Rattle.at_thread.specs.Laws.{all_told}
use Rattle.at_thread.specs.Runs.{Executes, IsRunOf, unbound}
use Rattle.at_thread.proofs.Determined.{determined}
use Rattle.at_run.specs.RunExamples.{example_script, first_block, second_block, last_block, says_unbound}

-- the variable of `main` is bound to the object
abbrev pub bound : Variables
bound = Some (values.Obj 0) ∷ None ∷ []

-- a thread that has ended with these variables, after a number of statements
abbrev pub ended_with : Variables → ℕ → ThreadState
ended_with variables begun = record { frames = []; call = None; variables = variables; it = values.Nothing; begun = begun }

abbrev pub main_whats : List what.What
main_whats = does 1 makes_class replies.Done ∷ does 2 (ops.New 1) (replies.Made 0 None) ∷ []

-- the first thread, whose last read replies this at a place
abbrev pub first_whats : ℕ → reply.Reply → List what.What
first_whats place said = begins 2 0 ∷ does 3 sets_five replies.Done ∷ ends_kept 3 ∷ does place gets_six said ∷ []

main_executes : IsExecution example_script (start example_script.main (unbound example_script)) main_whats (ended_with bound 2)
main_executes = (refl, 3, (refl, refl, (refl, refl, (refl, refl))))

pub main_runs : Executes example_script example_script.main (unbound example_script) main_whats bound
main_runs = record { end = ended_with bound 2; runs = main_executes; leaves = refl }

-- the variables of the first thread at its end
abbrev pub both_bound : Variables
both_bound = Some (values.Obj 0) ∷ Some (values.Obj 0) ∷ []

pub first_runs : Executes example_script first_block bound (first_whats 3 replies.NoAttr) both_bound
first_runs = record { end = ended_with both_bound 5; runs = (refl, 6, (refl, refl, (refl, refl, (refl, refl, (refl, refl, (refl, refl)))))); leaves = refl }

-- its last read finds what the second thread has written
pub first_runs_beside : Executes example_script first_block bound (first_whats 4 gives_eight) both_bound
first_runs_beside = record { end = ended_with both_bound 5; runs = (refl, 6, (refl, refl, (refl, refl, (refl, refl, (refl, refl, (refl, refl)))))); leaves = refl }

pub second_runs : Executes example_script second_block bound (does 4 sets_six replies.Done ∷ says_unbound 1 ∷ []) bound
second_runs = record { end = ended_with bound 2; runs = (refl, 3, (refl, refl, (refl, (refl, refl)))); leaves = refl }

pub last_runs : Executes example_script last_block bound (does 4 gets_five gives_seven ∷ []) bound
last_runs = record { end = ended_with bound 1; runs = (refl, 2, (refl, refl, (refl, refl))); leaves = refl }

-- where `main` has these lines, the variables of the others begin so
pub main_binds : (lines : List Line) (run : IsRunOf example_script lines) → all_told (whats_of_thread main_thread lines) ≡ all_told main_whats → run.variables ≡ bound
main_binds lines run told =
    let same = determined example_script (start example_script.main (unbound example_script)) run.main.end (ended_with bound 2) (whats_of_thread main_thread lines) main_whats run.main.runs main_executes told in
    sym run.main.leaves ∙ ap (λ (t : ThreadState). t.variables) same.1

-- so a block's execution begins with the variable bound
pub begins_bound : (block : List stmt.Stmt) (says : List what.What) (variables after : Variables) → variables ≡ bound → Executes example_script block variables says after → (end : ThreadState) × IsExecution example_script (start block bound) says end
begins_bound block says variables after known executes = (executes.end, subst (λ v. IsExecution example_script (start block v) says executes.end) known executes.runs)
