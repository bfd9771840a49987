use Rattle.at_core.specs.Passes.{IsOf}
use Rattle.at_section.specs.Surfaces.{Surface}
use Rattle.at_section.proofs.tests.found.Given as goal

abbrev pub invariant-loop-i : goal.invariant-loop-i
invariant-loop-i l = IsOf l.pass l.world × Surface l.pass
