use Rattle.std.proofs.Common.{◌∙◌, ap, arith, ◌<◌, ◌≤◌, length, slice_get}
use Rattle.at_value.specs.Widths as widths
use Rattle.at_back.specs.Indexing.{added}
use Rattle.at_back.proofs.Indexed.{added_next}
use Rattle.at_back.proofs.index.classes_of.Goals as goal

pub loop-number-preserved : goal.loop-number-preserved
loop-number-preserved c =
    let same = c.classes-number-end.ensures.same in
    let most = c.classes-number-end.ensures.most in
    let test = c.loop-number-test.true in
    let few : length c.args.script.now.classes ≤ widths.classes = omega arith in
    let below : c.loop-number.number < length c.args.script.now.classes = omega arith in
    c.in_ok-add.ensures ∙ ap (λ o. added widths.classes o c.loop-number.texts) (c.class_text.ensures ∙ ap (slice_get c.args.script.now.classes) c.class_of-class.ensures)
    ∙ ap (added widths.classes (slice_get c.args.script.now.classes c.loop-number.number)) c.loop-number.invariant
    ∙ added_next widths.classes c.args.script.now.classes c.loop-number.number c.requires few below
