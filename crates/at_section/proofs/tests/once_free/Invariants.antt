use Rattle.at_core.specs.Passes.{IsOf}
use Rattle.at_section.specs.Surfaces.{Surface}
use Rattle.at_section.proofs.tests.once_free.Given as goal

abbrev pub invariant-loop : goal.invariant-loop
invariant-loop g l = IsOf l.pass l.world × Surface l.pass
