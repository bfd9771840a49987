use Rattle.std.proofs.Common.{take}
use Rattle.std.specs.List.{flat_map}
use Rattle.at_text.specs.Prints.{Prints}
use Rattle.at_text.specs.Last.{pair_text}
use Rattle.at_text.specs.Order.{pair_of}
use Rattle.at_text.proofs.last.put_own.Given as goal

-- the pairs that were printed so far
abbrev pub invariant-loop-entry : goal.invariant-loop-entry
invariant-loop-entry g l =
    Prints l.initial.pen l.pen (flat_map (λ entry. pair_text l.names (pair_of entry)) (take l.entry-index l.entry-items))
