use Rattle.std.proofs.Common.{◌≡◌, take}
use Rattle.std.specs.List.{flat_map}
use Rattle.at_text.specs.Prints.{Prints}
use Rattle.at_text.specs.Last.{class_end_text}
use Rattle.at_text.proofs.last.put_class_ends.Given as goal

-- the classes that were printed so far
abbrev pub invariant-loop-i : goal.invariant-loop-i
invariant-loop-i g l = record {
  text : Prints l.initial.pen l.pen (flat_map (class_end_text l.names) (take l.i l.ends));
  keys : l.order.keys ≡ l.initial.order.keys;
}
