use Rattle.std.proofs.Common.{◌<◌, ◌≤◌, ap, length, arith}
use Rattle.std.proofs.lemmas.Option.{slice_get-get_or}
use Rattle.at_text.specs.Values.{class_item, class_item_at}
use Rattle.at_text.proofs.Printing.{prints_nothing, prints_same, then_item_at, all_items}
use Rattle.at_text.proofs.value.put_classes.Goals as goal

pub loop-i-init : goal.loop-i-init
loop-i-init g c = prints_nothing _

pub loop-i-preserved : goal.loop-i-preserved
loop-i-preserved g c =
    let classes = c.args.classes.now in
    let within : c.loop-i.i < length classes = omega arith in
    let next = prints_same (ap (class_item_at c.args.names.now) (slice_get-get_or classes c.loop-i.i 0 within)) c.put_class_at.ensures in
    then_item_at (class_item c.args.names.now) classes c.loop-i.i 0 within c.loop-i.invariant next

pub returns : goal.returns
returns g c =
    let over : length c.args.classes.now ≤ c.loop-i.i = omega arith in
    all_items (class_item c.args.names.now) c.args.classes.now c.loop-i.i over c.loop-i.invariant
