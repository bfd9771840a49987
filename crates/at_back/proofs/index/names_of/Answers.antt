use Rattle.std.proofs.Common.{◌∙◌, ap, arith, ◌<◌, ◌≤◌, length, slice_get}
use Rattle.at_value.specs.Widths as widths
use Rattle.at_back.specs.Indexing.{added}
use Rattle.at_back.proofs.Indexed.{added_next}
use Rattle.at_back.proofs.index.names_of.Goals as goal

pub loop-number-preserved : goal.loop-number-preserved
loop-number-preserved c =
    let same = c.names-number-end.ensures.same in
    let most = c.names-number-end.ensures.most in
    let test = c.loop-number-test.true in
    let few : length c.args.script.now.names ≤ widths.names = omega arith in
    let below : c.loop-number.number < length c.args.script.now.names = omega arith in
    c.in_ok-add.ensures ∙ ap (λ o. added widths.names o c.loop-number.texts) (c.name_text.ensures ∙ ap (slice_get c.args.script.now.names) c.name_of-name.ensures)
    ∙ ap (added widths.names (slice_get c.args.script.now.names c.loop-number.number)) c.loop-number.invariant
    ∙ added_next widths.names c.args.script.now.names c.loop-number.number c.requires few below
