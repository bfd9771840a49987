use Rattle.std.proofs.Common.{◌≡◌, ◌≤◌}
use Rattle.std.specs.VecDeque.{deque_len, deque_capacity}
use Rattle.at_types.specs.Tags.{tags_to}
use Rattle.at_types.proofs.tags.TagPool.new.Given as goal

-- the tags so far
abbrev pub invariant-loop-below : goal.invariant-loop-below
invariant-loop-below l = record {
  tags : l.free.items ≡ tags_to l.below;
  many : deque_len l.free ≡ l.below;
  room : l.size ≤ deque_capacity l.free;
}
