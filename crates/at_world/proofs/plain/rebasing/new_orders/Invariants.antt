use Rattle.std.proofs.Common.{◌≡◌, length}
use Rattle.at_value.specs.Widths as widths
use Rattle.at_world.specs.Plain.{lists_of}
use Rattle.at_model.specs.Step.{rebased}
use Rattle.at_world.specs.Rebasing.{AreRenewed}
use Rattle.at_world.proofs.plain.rebasing.new_orders.Given as goal

-- the rounds so far
abbrev pub invariant-loop-long : goal.invariant-loop-long
invariant-loop-long l = record {
  renewed : AreRenewed (rebased l.classes l.c l.bases) l.classes (lists_of l.was) l.c l.long 0 (lists_of l.orders.items);
  numbered : length l.orders.items ≡ widths.classes;
}
