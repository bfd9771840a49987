use Rattle.std.proofs.Common.{◌≡◌, ◌≤◌, ◌∷◌, ◌-◌, [], replicate, vec_capacity, length}
use Rattle.at_value.specs.Widths as widths
use Rattle.at_types.proofs.classes.first_orders.Given as goal

-- the order of `object`, and then empty lists
abbrev pub invariant-loop : goal.invariant-loop
invariant-loop l = record {
  orders : l.orders.items ≡ (0 ∷ []) ∷ replicate (l.counter - 1) [];
  long : length l.orders.items ≡ l.counter;
  room : widths.classes ≤ vec_capacity l.orders;
  from : 1 ≤ l.counter;
}
