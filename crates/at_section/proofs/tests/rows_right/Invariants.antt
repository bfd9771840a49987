use Rattle.at_core.specs.Passes.{IsOf}
use Rattle.at_section.specs.Surfaces.{Surface}
use Rattle.at_section.proofs.tests.rows_right.Given as goal

abbrev pub invariant-loop-overlap : goal.invariant-loop-overlap
invariant-loop-overlap g l = IsOf l.first l.world × IsOf l.second l.world × Surface l.first × Surface l.second
