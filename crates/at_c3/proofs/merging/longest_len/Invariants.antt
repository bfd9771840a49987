use Rattle.std.proofs.Common.{◌≤◌, length}
use Rattle.std.specs.List.{concat}
use Rattle.at_c3.specs.Slices.{contents}
use Rattle.at_c3.proofs.merging.longest_len.Given as goal

-- no list so far is longer than all together
abbrev pub invariant-loop-list : goal.invariant-loop-list
invariant-loop-list l = l.longest ≤ length (concat (contents l.lists))
