use Rattle.at_core.specs.Passes.{IsOf}
use Rattle.at_core.proofs.Closing.{HasLoadedKeys}
use Rattle.at_core.proofs.object_end.load_keys.Given as goal

abbrev pub invariant-loop-i : goal.invariant-loop-i
invariant-loop-i l = IsOf l.pass l.world × HasLoadedKeys l.fn.pass l.pass l.c l.i l.keys
