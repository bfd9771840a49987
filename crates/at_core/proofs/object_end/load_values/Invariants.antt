use Rattle.at_core.specs.Passes.{IsOf}
use Rattle.at_core.proofs.Closing.{HasLoadedValues}
use Rattle.at_core.proofs.object_end.load_values.Given as goal

abbrev pub invariant-loop-i : goal.invariant-loop-i
invariant-loop-i l = IsOf l.pass l.world × HasLoadedValues l.fn.pass l.pass l.o l.i l.words
