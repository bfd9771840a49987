use Rattle.std.proofs.Common.{◌≡◌, ◌-◌, length, take}
use Rattle.at_model.specs.World.{own_of, row_of}
use Rattle.at_core.proofs.close_world.own_of.Given as goal

-- the pairs so far
abbrev pub invariant-loop-pair : goal.invariant-loop-pair
invariant-loop-pair l = l.items.items ≡ take (length l.items.items) (own_of (row_of l.types.classes l.c))

abbrev pub decreases-loop-pair : goal.decreases-loop-pair
decreases-loop-pair l = length (own_of (row_of l.types.classes l.c)) - length l.items.items
