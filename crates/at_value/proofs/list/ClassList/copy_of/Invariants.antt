use Rattle.std.proofs.Common.{◌≡◌, ◌≤◌, take, length, vec_len, vec_capacity}
use Rattle.at_value.specs.Classes.{AreClasses}
use Rattle.at_value.proofs.list.ClassList.copy_of.Given as goal

-- the classes that were copied so far
abbrev pub invariant-loop-class : goal.invariant-loop-class
invariant-loop-class l = record {
  same : l.items.items ≡ take l.class-index l.list;
  classes : AreClasses l.items.items;
  room : length l.list ≤ vec_capacity l.items;
  len : vec_len l.items ≡ l.class-index;
}
