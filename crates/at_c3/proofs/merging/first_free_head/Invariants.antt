use Rattle.std.proofs.Common.{◌≡◌, not, drop, find}
use Rattle.at_c3.specs.Merge.{heads, stands_in_a_tail, next_head}
use Rattle.at_c3.specs.Slices.{contents}
use Rattle.at_c3.proofs.merging.first_free_head.Given as goal

-- the heads that are left give the answer
abbrev pub invariant-loop-list : goal.invariant-loop-list
invariant-loop-list l =
    find (λ head. not (stands_in_a_tail (contents l.lists) head)) (heads (contents (drop l.list-index l.lists))) ≡ next_head (contents l.lists)
