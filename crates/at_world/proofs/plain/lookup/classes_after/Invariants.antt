use Rattle.std.proofs.Common.{◌≡◌, drop}
use Rattle.at_model.specs.Attributes.{classes_after}
use Rattle.at_world.proofs.plain.lookup.classes_after.Given as goal

-- the numbers that are left give the answer
abbrev pub invariant-loop-i : goal.invariant-loop-i
invariant-loop-i l = classes_after l.k (drop l.i l.order) ≡ classes_after l.k l.order
