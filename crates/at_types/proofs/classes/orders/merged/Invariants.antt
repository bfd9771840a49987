use Rattle.std.proofs.Common.{◌≡◌, take}
use Rattle.at_value.specs.Classes.{AreClasses}
use Rattle.at_types.proofs.classes.orders.merged.Given as goal

-- the numbers so far
abbrev pub invariant-loop-base : goal.invariant-loop-base
invariant-loop-base l = record {
  numbers : l.numbers.items ≡ take l.base-index l.bases;
  classes : AreClasses l.numbers.items;
}
