use Rattle.std.proofs.Common.{◌≡◌, ◌∙◌, sym, ap, Some, None, vec_capacity}
use Rattle.std.specs.Option.{option_copied}
use Rattle.std.proofs.lemmas.Result.{IfOk-weaker}
use Rattle.at_thread.specs.Threads.{state_of}
use Rattle.at_run.proofs.Blocks.{without_finally, with_finally}
use Rattle.at_run.proofs.plain_run.run_finally.Goals as goal

pub returns-in_default : goal.returns-in_default
returns-in_default c =
    let p = c.args.script.now in
    let none : p.finally ≡ None = sym c.block.ensures ∙ ap option_copied c.in_default.is in
    without_finally p c.args.variables.now c.args.plain.now c.args.lines.now.items (vec_capacity c.args.lines.now) (state_of c.args.executing.now) c.requires none

pub returns : goal.returns
returns c =
    let p = c.args.script.now in
    let there : p.finally ≡ Some c.in-Some.block.now = sym c.block.ensures ∙ ap option_copied c.in-Some.is in
    IfOk-weaker c.run_block.result _ _ (λ u block.
    with_finally p c.args.variables.now c.in-Some.block.now (state_of c.restart.new.self) (state_of c.run_block.new.executing) (state_of c.args.executing.now) c.args.plain.now c.run_block.new.plain c.args.lines.now.items c.run_block.new.lines.items (vec_capacity c.args.lines.now)
    c.requires there c.restart.ensures block)
    c.run_block.ensures.runs
