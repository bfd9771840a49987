use Rattle.std.proofs.Common.{take}
use Rattle.std.specs.List.{flat_map}
use Rattle.at_text.specs.Prints.{Prints}
use Rattle.at_text.specs.Values.{class_item}
use Rattle.at_text.proofs.value.put_classes.Given as goal

abbrev pub invariant-loop-i : goal.invariant-loop-i
invariant-loop-i g l =
    Prints l.initial.pen l.pen (flat_map (class_item l.names) (take l.i l.classes))
