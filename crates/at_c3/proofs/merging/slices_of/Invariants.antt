use Rattle.std.proofs.Common.{◌≡◌, ◌≤◌, map, take, length}
use Rattle.smallvec.specs.SmallVec.{small_vec_len}
use Rattle.at_c3.specs.Slices.{contents}
use Rattle.at_c3.proofs.merging.slices_of.Given as goal

-- the lists so far, with room for all
abbrev pub invariant-loop-list : goal.invariant-loop-list
invariant-loop-list l = record {
  slices : contents l.slices.items ≡ map (λ list. list.items) (take l.list-index l.lists);
  len : small_vec_len l.slices ≡ l.list-index;
  room : length l.lists ≤ l.slices.capacity;
}
