use Rattle.std.proofs.Common.{◌≡◌, ◌≤◌, ◌∷◌, ◌-◌, [], None, Some, replicate, vec_capacity}
use Rattle.at_value.specs.Widths as widths
use Rattle.at_types.proofs.classes.first_rows.Given as goal

-- `object`, and then none
abbrev pub invariant-loop : goal.invariant-loop
invariant-loop l = record {
  rows : l.rows.items ≡ Some (record { bases = []; own = [] }) ∷ replicate (l.counter - 1) None;
  room : widths.classes ≤ vec_capacity l.rows;
  from : 1 ≤ l.counter;
}
