use Rattle.at_core.proofs.ClosingTypes.{AreEnds}
use Rattle.at_core.proofs.close_world.ends_of_classes.Given as goal

abbrev pub invariant-loop-i : goal.invariant-loop-i
invariant-loop-i l = AreEnds l.types l.i l.ends.items
