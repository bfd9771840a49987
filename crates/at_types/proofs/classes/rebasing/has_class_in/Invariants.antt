use Rattle.std.proofs.Common.{◌≡◌, drop}
use Rattle.at_model.specs.Step.{has_number}
use Rattle.at_types.proofs.classes.rebasing.has_class_in.Given as goal

-- the class is none of those so far
abbrev pub invariant-loop-i : goal.invariant-loop-i
invariant-loop-i l = has_number l.c l.order ≡ has_number l.c (drop l.i l.order)
