use Rattle.std.proofs.Common.{◌≡◌, ◌++◌, drop}
use Rattle.at_model.specs.Final.{class_ends}
use Rattle.at_world.proofs.plain.Plain.class_ends.Given as goal

-- the ends so far, and those of the classes that are left
abbrev pub invariant-loop-i : goal.invariant-loop-i
invariant-loop-i l = l.ends.items ++ class_ends l.self.world l.i (drop l.i l.self-inside.classes.items) ≡ class_ends l.self.world 0 l.self-inside.classes.items
