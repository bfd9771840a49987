-- Histories of operations, and the worlds that they lead to.
use Rattle.std.specs.Prelude.{IsTrue, List, [], ◌∷◌}
use Rattle.at_value.specs.declared.operation.Op as op
use Rattle.at_model.specs.World.{World}
use Rattle.at_model.specs.Step.{step, is_write}

-- the world after these operations, one after another, from an opening world on
abbrev pub replay : World → List op.Op → World
replay opened [] = opened
replay opened (operation ∷ operations) = replay (step opened operation).world operations

-- each operation is a write at its point of the history
abbrev pub IsProper : World → List op.Op → Type 0
IsProper opened [] = Unit {0}
IsProper opened (operation ∷ operations) = IsTrue (is_write opened operation) × IsProper (step opened operation).world operations
