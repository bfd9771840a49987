use Rattle.std.proofs.Common.{◌≡◌, ◌∙◌, sym, ap, subst, refl, ℕ, ◌+◌, List, [], get_or, slice_get, Some, vec_capacity}
use Rattle.std.proofs.lemmas.Option.{slice_get-get_or}
use Rattle.std.proofs.lemmas.Result.{IfOk-weaker}
use Rattle.at_script.specs.declared.stmt.Stmt.{Stmt}
use Rattle.at_thread.specs.Execution.{start}
use Rattle.at_thread.specs.Threads.{state_of}
use Rattle.at_run.specs.Blocks.{Stands, or_none}
use Rattle.at_run.proofs.Blocks.{after_thread}
use Rattle.at_run.proofs.plain_run.run_thread.Goals as goal

pub returns : goal.returns
returns c =
    let p = c.args.script.now in
    let variables = c.args.variables.now in
    let thread = c.args.thread in
    let statements : List Stmt = get_or p.threads thread [] in
    let there : slice_get p.threads thread ≡ Some statements = slice_get-get_or p.threads thread [] c.requires.there in
    let begins : state_of c.restart.new.self ≡ start statements variables = c.restart.ensures ∙ ap (λ (b : List Stmt). start b variables) (c.statements_of.ensures ∙ ap or_none there) in
    IfOk-weaker c.run_block.result _ _ (λ u block.
    subst (λ (n : ℕ). Stands p variables (thread + 1) c.run_block.new.plain c.run_block.new.lines.items n (state_of c.run_block.new.executing)) (sym c.run_block.ensures.capacity)
    (after_thread p variables thread (thread + 1) statements (state_of c.restart.new.self) (state_of c.run_block.new.executing) (state_of c.args.executing.now) c.args.plain.now c.run_block.new.plain c.args.lines.now.items c.run_block.new.lines.items (vec_capacity c.args.lines.now)
    c.requires.before there c.requires.there refl begins block))
    c.run_block.ensures.runs
