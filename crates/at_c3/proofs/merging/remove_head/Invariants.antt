use Rattle.std.proofs.Common.{◌≡◌, ◌++◌, map, take, drop}
use Rattle.at_c3.specs.Counts.{AreCountsOf, tail_numbers}
use Rattle.at_c3.specs.Merge.{without_head}
use Rattle.at_c3.specs.Slices.{contents}
use Rattle.at_c3.proofs.merging.remove_head.Given as goal

-- the lists before the index are done, and the others as they were
abbrev pub invariant-loop-list : goal.invariant-loop-list
invariant-loop-list l = record {
  rests : contents l.lists ≡ map (without_head l.number) (take l.list-index (contents l.fn.lists)) ++ drop l.list-index (contents l.fn.lists);
  counts : AreCountsOf l.in_tails.counts.items (tail_numbers (contents l.lists));
}
