use Rattle.std.proofs.Common.{take}
use Rattle.std.specs.List.{flat_map}
use Rattle.at_text.specs.Prints.{Prints}
use Rattle.at_text.specs.Values.{class_item}
use Rattle.at_text.proofs.value.put_bases.Given as goal

abbrev pub invariant-loop-base : goal.invariant-loop-base
invariant-loop-base g l =
    Prints l.initial.pen l.pen (flat_map (class_item l.names) (take l.base-index l.base-items))
