use Rattle.std.proofs.Common.{◌∙◌, ℕ, zero, suc, List, [], ◌∷◌, refl, ap}
use Rattle.at_value.specs.declared.reply.Reply.TheVariants as replies
use Rattle.at_line.specs.declared.line.What as what
use Rattle.at_line.specs.Kept.{whats_of_thread}
use Rattle.at_line.specs.Lines.{finally_thread}
use Rattle.at_line.specs.LineExamples.{does, sets_six}
use Rattle.at_thread.specs.Execution.{ThreadState, start, next_of}
use Rattle.at_thread.specs.Executions.{Leads, IsExecution}
use Rattle.at_run.specs.RunExamples.{example_script, first_block, last_block, says_unbound, threads_swapped, finally_left_out}
use Rattle.at_run.proofs.RunChecks.{bound, main_binds, begins_bound}
use Rattle.at_run.proofs.examples.lists_with_wrong_blocks.Goals as goal

-- the first block begins with a section
never_swapped : (steps : ℕ) (more : List what.What) (end : ThreadState) → Leads example_script steps (start first_block bound) (does 3 sets_six replies.Done ∷ more) end → ⊥
never_swapped zero more end leads = let none = leads.0 in cc
never_swapped (suc steps) more end leads = let other = leads.0 in cc

-- the last block has a line to say
never_silent : (end : ThreadState) → IsExecution example_script (start last_block bound) [] end → ⊥
never_silent end (ends, zero, leads) = let same = ap (next_of example_script) leads.1 ∙ ends in cc
never_silent end (ends, suc steps, leads) = leads

pub returns-clause-swapped : goal.returns-clause-swapped
returns-clause-swapped c = λ run.
    let first = run.threads 0 first_block refl in
    let begun = begins_bound first_block (whats_of_thread 1 threads_swapped) run.variables first.0 (main_binds threads_swapped run refl) first.1 in
    never_swapped begun.1.1 (says_unbound 1 ∷ []) begun.0 begun.1.2

pub returns-clause-left_out : goal.returns-clause-left_out
returns-clause-left_out c = λ run.
    let last = run.finally last_block refl in
    let begun = begins_bound last_block (whats_of_thread finally_thread finally_left_out) run.variables last.0 (main_binds finally_left_out run refl) last.1 in
    never_silent begun.0 begun.1
