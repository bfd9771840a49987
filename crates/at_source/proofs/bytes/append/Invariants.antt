use Rattle.std.proofs.Common.{◌≡◌, ◌++◌, take, vec_capacity}
use Rattle.at_source.proofs.bytes.append.Given as goal

abbrev pub invariant-loop-byte : goal.invariant-loop-byte
invariant-loop-byte l = record {
  items : l.list.items ≡ l.fn.list.items ++ take l.byte-index l.bytes;
  capacity : vec_capacity l.list ≡ vec_capacity l.fn.list;
}
