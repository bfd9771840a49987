use Rattle.std.proofs.Common.{◌≤◌, length}
use Rattle.at_model.specs.Step.{rebased}
use Rattle.at_types.specs.Renewing.{AreRenewedFrom}
use Rattle.at_types.proofs.classes.Classes.renew.Given as goal

-- the classes so far have their new orders
abbrev pub invariant-loop-left : goal.invariant-loop-left
invariant-loop-left l = record {
  renewed : AreRenewedFrom l.self (rebased l.self l.c l.bases) l.below l.left l.renewed;
  within : l.left ≤ length l.below;
}

abbrev pub decreases-loop-left : goal.decreases-loop-left
decreases-loop-left l = l.left
