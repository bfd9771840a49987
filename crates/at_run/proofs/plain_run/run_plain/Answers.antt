use Rattle.std.proofs.Common.{◌≡◌, ◌∙◌, sym, ap, subst, ℕ, ◌+◌, ◌*◌, arith, List, length, replicate, None, vec_capacity}
use Rattle.std.proofs.lemmas.List.{length-replicate}
use Rattle.at_line.specs.Types.{Line}
use Rattle.at_script.specs.declared.stmt.Stmt.{Stmt}
use Rattle.at_thread.specs.Execution.{Variables, start}
use Rattle.at_thread.specs.Runs.{unbound}
use Rattle.at_thread.specs.Threads.{state_of}
use Rattle.at_run.specs.Blocks.{Stands, RunsBlock, most_of}
use Rattle.at_run.specs.PlainRun.{IsPlainRun}
use Rattle.at_run.specs.LegalRun.{IsLegalRun}
use Rattle.at_run.proofs.Blocks.{after_main, count}
use Rattle.at_run.proofs.Legals.{plain_is_legal}
use Rattle.at_run.proofs.plain_run.run_plain.Goals as goal

pub copy_from_slice-requires : goal.copy_from_slice-requires
copy_from_slice-requires c =
    let p = c.args.script.now in
    let variables : Variables = c.in_ok-unbound.field-0.items in
    let block = c.in_ok-run_block.ensures.runs in
    let same = ap length c.variables.ensures ∙ count p 0 c.statements_of-main.result.now variables (state_of c.in_ok-executing.executing) (state_of c.run_block.new.executing) c.in_ok-plain.plain c.run_block.new.plain c.in_ok-lines.lines.items c.run_block.new.lines.items c.in_ok-executing.ensures block in
    let first : length c.in_ok-variables.variables.items ≡ c.vars.result = ap length c.in_ok-variables.ensures ∙ length-replicate c.vars.result None in
    let second : length variables ≡ c.vars-2.result = ap length c.in_ok-unbound.ensures ∙ length-replicate c.vars-2.result None in
    let many = c.vars.ensures.same in
    let again = c.vars-2.ensures.same in
    omega arith

pub run_threads-requires : goal.run_threads-requires
run_threads-requires c =
    let p = c.args.script.now in
    let begins : state_of c.in_ok-executing.executing ≡ start p.main (unbound p) = c.in_ok-executing.ensures
    ∙ (ap (λ (b : List Stmt). start b c.in_ok-unbound.field-0.items) c.statements_of-main.ensures
    ∙ ap (λ (v : Variables). start p.main v) (c.in_ok-unbound.ensures ∙ ap (λ (n : ℕ). replicate n None) c.vars-2.ensures.same)) in
    let block = subst (λ (before : List Line). RunsBlock p 0 (state_of c.in_ok-executing.executing) c.in_ok-plain.plain before (state_of c.run_block.new.executing) c.run_block.new.plain c.run_block.new.lines.items) c.in_ok-lines.ensures.items c.in_ok-run_block.ensures.runs in
    let capacity : (length p.threads + 2) * most_of p ≡ vec_capacity c.run_block.new.lines = sym (c.run_block.ensures.capacity ∙ (c.in_ok-lines.ensures.exact ∙ c.most_lines.ensures.same)) in
    let stands = after_main p (state_of c.in_ok-executing.executing) (state_of c.run_block.new.executing) c.in_ok-plain.plain c.run_block.new.plain c.run_block.new.lines.items (vec_capacity c.run_block.new.lines) begins c.in_ok-plain.ensures block capacity c.most_lines.ensures.budget c.most_lines.ensures.threads in
    subst (λ (v : Variables). Stands p v 0 c.run_block.new.plain c.run_block.new.lines.items (vec_capacity c.run_block.new.lines) (state_of c.run_block.new.executing)) (sym (c.deref.ensures.value ∙ (c.copy_from_slice.ensures.items ∙ c.variables.ensures))) stands

pub returns-clause-plain : goal.returns-clause-plain
returns-clause-plain c =
    let p = c.args.script.now in
    subst (λ (lines : List Line). IsPlainRun p lines c.in_ok-last.last) (sym c.of.ensures) (c.in_ok-run_finally.ensures c.in_ok-last.last c.in_ok-last.ensures)

pub returns-clause-legal : goal.returns-clause-legal
returns-clause-legal c =
    let p = c.args.script.now in
    subst (λ (lines : List Line). IsLegalRun p lines c.in_ok-last.last) (sym c.of.ensures)
    (plain_is_legal p c.run_finally.new.lines.items c.in_ok-last.last c.most_lines.ensures.threads (c.in_ok-run_finally.ensures c.in_ok-last.last c.in_ok-last.ensures))
