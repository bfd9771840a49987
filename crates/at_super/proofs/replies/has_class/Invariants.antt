use Rattle.std.proofs.Common.{◌≡◌, drop}
use Rattle.at_model.specs.Step.{has_number}
use Rattle.at_super.proofs.replies.has_class.Given as goal

-- the class is none of those so far
abbrev pub invariant-loop-i : goal.invariant-loop-i
invariant-loop-i l = has_number l.k l.order ≡ has_number l.k (drop l.i l.order)
