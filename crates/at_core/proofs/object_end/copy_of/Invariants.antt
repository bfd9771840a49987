use Rattle.std.proofs.Common.{◌≡◌, ◌-◌, length, take}
use Rattle.at_core.proofs.object_end.copy_of.Given as goal

-- the pairs so far
abbrev pub invariant-loop-pair : goal.invariant-loop-pair
invariant-loop-pair l = l.items.items ≡ take (length l.items.items) l.body.map

abbrev pub decreases-loop-pair : goal.decreases-loop-pair
decreases-loop-pair l = length l.body.map - length l.items.items
