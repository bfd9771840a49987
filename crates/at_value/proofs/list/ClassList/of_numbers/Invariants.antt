use Rattle.std.proofs.Common.{◌≡◌, ◌≤◌, take, length, vec_len, vec_capacity}
use Rattle.at_value.specs.Classes.{AreClasses}
use Rattle.at_value.proofs.list.ClassList.of_numbers.Given as goal

-- the classes that were copied so far
abbrev pub invariant-loop-i : goal.invariant-loop-i
invariant-loop-i l = record {
  same : l.items.items ≡ take l.i l.numbers;
  classes : AreClasses l.items.items;
  room : length l.numbers ≤ vec_capacity l.items;
  len : vec_len l.items ≡ l.i;
}
