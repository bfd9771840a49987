use Rattle.std.proofs.Common.{◌≡◌, ◌≤◌, [], replicate, map, vec_len, vec_capacity}
use Rattle.at_tree.proofs.Tree.new.Given as goal

-- the lists so far
abbrev pub invariant-loop : goal.invariant-loop
invariant-loop l = record {
  lists : map (λ v. v.items) l.lists.items ≡ replicate l.counter [];
  room : l.n ≤ vec_capacity l.lists;
  len : vec_len l.lists ≡ l.counter;
}
