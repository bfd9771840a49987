use Rattle.std.proofs.Common.{◌≡◌, drop}
use Rattle.at_world.specs.Plain.{lists_of}
use Rattle.at_world.specs.Rebasing.{first_empty}
use Rattle.at_world.proofs.plain.rebasing.first_without.Given as goal

-- the classes that are left give the answer
abbrev pub invariant-loop-i : goal.invariant-loop-i
invariant-loop-i l = first_empty l.i (drop l.i l.classes) (lists_of l.orders) ≡ first_empty 0 l.classes (lists_of l.orders)
