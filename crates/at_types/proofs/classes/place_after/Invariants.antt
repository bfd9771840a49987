use Rattle.std.proofs.Common.{◌≡◌, drop}
use Rattle.at_model.specs.Attributes.{classes_after}
use Rattle.at_types.proofs.classes.place_after.Given as goal

-- the class is none of those so far
abbrev pub invariant-loop-i : goal.invariant-loop-i
invariant-loop-i l = classes_after l.k l.order ≡ classes_after l.k (drop l.i l.order)
