use Rattle.std.proofs.Common.{◌≡◌, drop}
use Rattle.at_model.specs.Step.{has_repeat}
use Rattle.at_types.proofs.classes.defining.has_repeat.Given as goal

-- the classes that are left give the answer
abbrev pub invariant-loop-i : goal.invariant-loop-i
invariant-loop-i l = has_repeat (drop l.i l.classes) ≡ has_repeat l.classes
