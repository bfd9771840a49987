use Rattle.std.proofs.Common.{[], take}
use Rattle.at_c3.specs.Counts.{AreCountsOf, tail_numbers}
use Rattle.at_c3.specs.Slices.{contents}
use Rattle.at_c3.proofs.merging.count_tails.Given as goal

-- the tails before the index are counted
abbrev pub invariant-loop-list : goal.invariant-loop-list
invariant-loop-list l = AreCountsOf l.fn.counts.counts.items [] → AreCountsOf l.counts.counts.items (tail_numbers (contents (take l.list-index l.lists)))
