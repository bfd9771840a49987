use Rattle.std.proofs.Common.{◌∙◌, ap, arith, ◌<◌, ◌≤◌, length, slice_get}
use Rattle.at_value.specs.Widths as widths
use Rattle.at_back.specs.Indexing.{added}
use Rattle.at_back.proofs.Indexed.{added_next}
use Rattle.at_back.proofs.index.funcs_of.Goals as goal

pub loop-number-preserved : goal.loop-number-preserved
loop-number-preserved c =
    let same = c.funcs-number-end.ensures.same in
    let most = c.funcs-number-end.ensures.most in
    let test = c.loop-number-test.true in
    let few : length c.args.script.now.funcs ≤ widths.functions = omega arith in
    let below : c.loop-number.number < length c.args.script.now.funcs = omega arith in
    c.in_ok-add.ensures ∙ ap (λ o. added widths.functions o c.loop-number.texts) (c.func_text.ensures ∙ ap (slice_get c.args.script.now.funcs) c.func_of-func.ensures)
    ∙ ap (added widths.functions (slice_get c.args.script.now.funcs c.loop-number.number)) c.loop-number.invariant
    ∙ added_next widths.functions c.args.script.now.funcs c.loop-number.number c.requires few below
