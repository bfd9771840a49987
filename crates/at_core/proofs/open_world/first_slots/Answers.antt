use Rattle.std.proofs.Common.{ap, sym, subst, ◌+◌}
use Rattle.at_core.specs.Opened.{opening_of}
use Rattle.at_core.specs.Runs.{AreFirstSlots}
use Rattle.at_core.proofs.Opening.{slots_more}
use Rattle.at_core.proofs.open_world.first_slots.Goals as goal

pub loop-preserved : goal.loop-preserved
loop-preserved c =
    let limits = c.args.limits.now in
    let empty = ap (λ b. b.map) c.new-in-loop.ensures in
    subst (AreFirstSlots (opening_of limits) limits (c.loop.counter + 1)) (sym c.in_ok-push-2.ensures.items)
    (slots_more (opening_of limits) limits c.loop.counter c.loop.slots.items c.new-in-loop.result empty c.loop.invariant)
