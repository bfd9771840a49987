use Rattle.std.proofs.Common.{◌≡◌, length}
use Rattle.std.specs.List.{concat}
use Rattle.smallvec.specs.SmallVec.{HasRoomFor}
use Rattle.at_c3.specs.Counts.{AreCountsOf, tail_numbers}
use Rattle.at_c3.specs.Merge.{merge_of, prefixed}
use Rattle.at_c3.specs.Slices.{contents}
use Rattle.at_c3.proofs.merging.merge_onto.Given as goal

-- what is merged so far, and then the merge of what is left, is the merge of all
abbrev pub invariant-loop-head : goal.invariant-loop-head
invariant-loop-head l = record {
  merged : prefixed l.merged.items (merge_of (contents l.rests)) ≡ prefixed l.fn.merged.items (merge_of (contents l.fn.rests));
  room : HasRoomFor l.fn.merged (length (concat (contents l.fn.rests))) → HasRoomFor l.merged (length (concat (contents l.rests)));
  counts : AreCountsOf l.in_tails.counts.items (tail_numbers (contents l.rests));
}

-- the numbers that are left
abbrev pub decreases-loop-head : goal.decreases-loop-head
decreases-loop-head l = length (concat (contents l.rests))
