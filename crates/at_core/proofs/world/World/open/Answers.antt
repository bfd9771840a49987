use Rattle.std.proofs.Common.{◌∙◌, arith}
use Rattle.at_core.proofs.Opening.{opened_base}
use Rattle.at_core.proofs.world.World.open.Goals as goal

pub new-requires : goal.new-requires
new-requires c =
    let limits = c.args.limits in
    let good = c.are_good.ensures.0 c.if-not-are_good.false in
    let place = good.place in
    opened_base limits c.deref.result.now c.in_ok-slots.slots.items (omega arith) (c.deref.ensures.value ∙ c.in_ok-words.ensures) c.in_ok-slots.ensures
