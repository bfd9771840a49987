use Rattle.std.proofs.Common.{◌≡◌, sym, subst, length}
use Rattle.at_value.specs.Widths as widths
use Rattle.at_world.specs.Plain.{PlainState}
use Rattle.at_world.proofs.Definitions.{order_numbers}
use Rattle.at_world.proofs.plain.Plain.order_list.Goals as goal

pub of_numbers-requires : goal.of_numbers-requires
of_numbers-requires c =
    let IsLong : PlainState → Type 0 = λ s. length s.world.classes ≡ widths.classes in
    let long : length c.args.self.now.world.classes ≡ widths.classes = subst IsLong c.self.view_is c.self.invariant.numbered in
    order_numbers c.args.self.now.world.classes c.args.c c.in-Some.order.now long (sym c.in-Some.ensures)
