use Rattle.std.proofs.Common.{sym, subst}
use Rattle.at_value.specs.Classes.{AreClasses}
use Rattle.at_types.specs.Renewing.{lists_of}
use Rattle.at_types.proofs.MergedOrders.{merged_are_classes}
use Rattle.at_types.proofs.classes.orders.merged.Goals as goal

pub of_numbers-requires : goal.of_numbers-requires
of_numbers-requires c =
    subst AreClasses (sym c.as_slice-in-Ok.ensures)
    (merged_are_classes c.number-2.result c.as_slice.result.now c.in-Ok.order.items (lists_of c.args.orders.now) c.number-2.ensures.range
    (subst AreClasses (sym c.as_slice.ensures) c.loop-base.invariant.classes) c.requires c.in-Ok.ensures.ordered)
