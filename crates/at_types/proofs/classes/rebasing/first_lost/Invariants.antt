use Rattle.std.proofs.Common.{◌≡◌, drop}
use Rattle.at_types.specs.Renewing.{first_lost}
use Rattle.at_types.proofs.classes.rebasing.first_lost.Given as goal

-- no class so far has lost its order
abbrev pub invariant-loop-i : goal.invariant-loop-i
invariant-loop-i l = first_lost 0 l.renewed ≡ first_lost l.i (drop l.i l.renewed)
