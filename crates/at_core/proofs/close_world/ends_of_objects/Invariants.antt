use Rattle.at_core.proofs.ClosingTypes.{HasReadSome}
use Rattle.at_core.proofs.close_world.ends_of_objects.Given as goal

abbrev pub invariant-loop-i : goal.invariant-loop-i
invariant-loop-i l = HasReadSome l.world l.fn.pass l.pass l.i l.ends.items
