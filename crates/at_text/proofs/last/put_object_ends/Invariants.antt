use Rattle.std.proofs.Common.{◌≡◌, take}
use Rattle.at_text.specs.Prints.{Prints}
use Rattle.at_text.specs.Last.{object_ends_text}
use Rattle.at_text.proofs.last.put_object_ends.Given as goal

-- the objects that were printed so far
abbrev pub invariant-loop-number : goal.invariant-loop-number
invariant-loop-number g l = record {
  text : Prints l.initial.pen l.pen (object_ends_text l.names 0 (take l.number l.ends));
  keys : l.order.keys ≡ l.initial.order.keys;
}
