use Rattle.std.proofs.Common.{◌≡◌, take}
use Rattle.at_types.specs.Links.{missing_from}
use Rattle.at_types.proofs.classes.rebasing.without.Given as goal

-- the classes so far
abbrev pub invariant-loop-i : goal.invariant-loop-i
invariant-loop-i l = l.rest ≡ missing_from l.others (take l.i l.classes)
