use Rattle.at_core.specs.Opened.{opening_of}
use Rattle.at_core.specs.Runs.{AreFirstSlots}
use Rattle.at_core.proofs.open_world.first_slots.Given as goal

abbrev pub invariant-loop : goal.invariant-loop
invariant-loop l = AreFirstSlots (opening_of l.fn.limits) l.fn.limits l.counter l.slots.items
