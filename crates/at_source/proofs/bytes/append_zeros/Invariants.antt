use Rattle.std.proofs.Common.{◌≡◌, ◌+◌, ◌++◌, replicate, vec_len, vec_capacity}
use Rattle.at_source.proofs.bytes.append_zeros.Given as goal

abbrev pub invariant-loop-i : goal.invariant-loop-i
invariant-loop-i l = record {
  items : l.list.items ≡ l.fn.list.items ++ replicate l.i 0;
  len : vec_len l.list ≡ vec_len l.fn.list + l.i;
  capacity : vec_capacity l.list ≡ vec_capacity l.fn.list;
}
