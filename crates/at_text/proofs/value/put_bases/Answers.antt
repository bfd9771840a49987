use Rattle.std.proofs.Common.{ap}
use Rattle.at_text.specs.Values.{class_item, classes_text}
use Rattle.at_text.proofs.Printing.{prints_nothing, prints_same, then_item, all_items}
use Rattle.at_text.proofs.value.put_bases.Goals as goal

pub loop-base-init : goal.loop-base-init
loop-base-init g c = prints_nothing _

pub loop-base-preserved : goal.loop-base-preserved
loop-base-preserved g c =
    then_item (class_item c.args.names.now) c.as_slice-base-items.result.now c.loop-base.base-index c.base-item.result c.loop-base-test.true c.base-item.is c.loop-base.invariant c.put_class_item.ensures

pub returns : goal.returns
returns g c =
    prints_same (ap (classes_text c.args.names.now) c.as_slice-base-items.ensures)
    (all_items (class_item c.args.names.now) c.as_slice-base-items.result.now c.loop-base.base-index c.loop-base-test.false c.loop-base.invariant)
