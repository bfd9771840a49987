use Rattle.std.proofs.Common.{◌≡◌, ◌≤◌, None, replicate, vec_capacity}
use Rattle.at_value.specs.Widths as widths
use Rattle.at_types.proofs.classes.rebasing.no_new_orders.Given as goal

-- none so far
abbrev pub invariant-loop : goal.invariant-loop
invariant-loop l = record {
  orders : l.renewed.items ≡ replicate l.counter None;
  room : widths.classes ≤ vec_capacity l.renewed;
}
