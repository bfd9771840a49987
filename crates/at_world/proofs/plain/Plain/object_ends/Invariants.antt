use Rattle.std.proofs.Common.{◌≡◌, map, take}
use Rattle.at_model.specs.Final.{object_end}
use Rattle.at_world.proofs.plain.Plain.object_ends.Given as goal

-- the objects so far
abbrev pub invariant-loop-object : goal.invariant-loop-object
invariant-loop-object l = l.ends.items ≡ map (object_end l.self.world) (take l.object-index l.object-items)
