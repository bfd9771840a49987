use Rattle.std.proofs.Common.{◌∙◌, ap, arith, ◌<◌, ◌≤◌, length, slice_get}
use Rattle.at_script.specs.Limits as limits
use Rattle.at_back.specs.Indexing.{added}
use Rattle.at_back.proofs.Indexed.{added_next}
use Rattle.at_back.proofs.index.vars_of.Goals as goal

pub loop-number-preserved : goal.loop-number-preserved
loop-number-preserved c =
    let same = c.vars-number-end.ensures.same in
    let most = c.vars-number-end.ensures.most in
    let test = c.loop-number-test.true in
    let few : length c.args.script.now.vars ≤ limits.most_variables = omega arith in
    let below : c.loop-number.number < length c.args.script.now.vars = omega arith in
    c.in_ok-add.ensures ∙ ap (λ o. added limits.most_variables o c.loop-number.texts) (c.var_text.ensures)
    ∙ ap (added limits.most_variables (slice_get c.args.script.now.vars c.loop-number.number)) c.loop-number.invariant
    ∙ added_next limits.most_variables c.args.script.now.vars c.loop-number.number c.requires few below
