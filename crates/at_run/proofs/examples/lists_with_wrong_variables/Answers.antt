use Rattle.std.proofs.Common.{ℕ, zero, suc, List, [], ◌∷◌, refl}
use Rattle.std.proofs.lemmas.Bool.{false≢true}
use Rattle.at_value.specs.declared.reply.Reply.TheVariants as replies
use Rattle.at_line.specs.declared.line.What as what
use Rattle.at_line.specs.Kept.{whats_of_thread}
use Rattle.at_line.specs.Lines.{finally_thread}
use Rattle.at_line.specs.LineExamples.{does, sets_six, gets_five, gives_seven}
use Rattle.at_thread.specs.Execution.{ThreadState, start}
use Rattle.at_thread.specs.Executions.{Leads}
use Rattle.at_run.specs.RunExamples.{example_script, first_block, second_block, last_block, says_unbound, variable_forgotten, variable_forgotten_at_last, variable_shared}
use Rattle.at_run.proofs.RunChecks.{bound, main_binds, begins_bound}
use Rattle.at_run.proofs.examples.lists_with_wrong_variables.Goals as goal

-- no line stands in the place of the begin of a section, nor does this one in that of a read
never_first : (steps : ℕ) (more : List what.What) (end : ThreadState) → Leads example_script steps (start first_block bound) (says_unbound 0 ∷ more) end → ⊥
never_first zero more end leads = let none = leads.0 in cc
never_first (suc steps) more end leads = false≢true leads.0

never_last : (steps : ℕ) (more : List what.What) (end : ThreadState) → Leads example_script steps (start last_block bound) (says_unbound 0 ∷ more) end → ⊥
never_last zero more end leads = let none = leads.0 in cc
never_last (suc steps) more end leads = false≢true leads.0

-- the second thread has no value for the variable of the first
never_shared : (steps : ℕ) (end : ThreadState) → Leads example_script steps (start second_block bound) (does 4 sets_six replies.Done ∷ does 4 gets_five gives_seven ∷ []) end → ⊥
never_shared zero end leads = let none = leads.0 in cc
never_shared (suc zero) end leads = let none = leads.2.0 in cc
never_shared (suc (suc steps)) end leads = let other = leads.2.0 in cc

pub returns-clause-threads : goal.returns-clause-threads
returns-clause-threads c = λ run.
    let first = run.threads 0 first_block refl in
    let begun = begins_bound first_block (whats_of_thread 1 variable_forgotten) run.variables first.0 (main_binds variable_forgotten run refl) first.1 in
    never_first begun.1.1 (says_unbound 0 ∷ says_unbound 0 ∷ says_unbound 0 ∷ []) begun.0 begun.1.2

pub returns-clause-finally : goal.returns-clause-finally
returns-clause-finally c = λ run.
    let last = run.finally last_block refl in
    let begun = begins_bound last_block (whats_of_thread finally_thread variable_forgotten_at_last) run.variables last.0 (main_binds variable_forgotten_at_last run refl) last.1 in
    never_last begun.1.1 [] begun.0 begun.1.2

pub returns-clause-shared : goal.returns-clause-shared
returns-clause-shared c = λ run.
    let second = run.threads 1 second_block refl in
    let begun = begins_bound second_block (whats_of_thread 2 variable_shared) run.variables second.0 (main_binds variable_shared run refl) second.1 in
    never_shared begun.1.1 begun.0 begun.1.2
