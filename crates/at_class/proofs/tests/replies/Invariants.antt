use Rattle.at_core.specs.Passes.{IsOf}
use Rattle.at_section.specs.Surfaces.{Surface}
use Rattle.at_class.proofs.tests.replies.Given as goal

-- the pass may begin a section
abbrev pub invariant-loop-op : goal.invariant-loop-op
invariant-loop-op g l = IsOf l.pass l.world × Surface l.pass
