use Rattle.std.proofs.Common.{◌≡◌, ◌≤◌, ◌∷◌, ◌-◌, [], None, Some, replicate, vec_capacity}
use Rattle.at_value.specs.Widths as widths
use Rattle.at_model.specs.World.{new_row}
use Rattle.at_world.proofs.plain.first_classes.Given as goal

-- `object`, and then none
abbrev pub invariant-loop : goal.invariant-loop
invariant-loop l = record {
  rows : l.classes.items ≡ Some (new_row []) ∷ replicate (l.counter - 1) None;
  room : widths.classes ≤ vec_capacity l.classes;
  from : 1 ≤ l.counter;
}
