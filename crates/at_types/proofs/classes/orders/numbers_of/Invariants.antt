use Rattle.std.proofs.Common.{◌≡◌, ◌++◌, drop}
use Rattle.at_value.specs.Classes.{AreClasses}
use Rattle.at_types.proofs.classes.orders.numbers_of.Given as goal

-- the numbers so far, and those that are left
abbrev pub invariant-loop-i : goal.invariant-loop-i
invariant-loop-i l = record {
  numbers : l.numbers.items ++ drop l.i l.classes ≡ l.classes;
  classes : AreClasses l.numbers.items;
}
