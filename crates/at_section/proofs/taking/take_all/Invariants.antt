use Rattle.std.proofs.Common.{◌≤◌, length}
use Rattle.at_core.specs.declared.note.TheConstants.{MOST_NOTES}
use Rattle.at_core.specs.Passes.{notes, IsOf}
use Rattle.at_section.specs.Calls.{Moves}
use Rattle.at_section.specs.Sections.{locks_of}
use Rattle.at_section.specs.Surfaces.{IsTaking}
use Rattle.at_section.proofs.taking.take_all.Given as goal

-- some locks were taken
abbrev pub invariant-loop : goal.invariant-loop
invariant-loop g l = IsOf l.pass l.world × (length (notes l.pass) ≤ MOST_NOTES) × Moves (locks_of l.note) l.initial.pass l.pass × IsTaking (locks_of l.note) l.pass
