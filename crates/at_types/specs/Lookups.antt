-- Look-ups of names in classes.
use Rattle.std.specs.Prelude.{ℕ, List, Option}
use Rattle.at_value.specs.declared.value.Value as value
use Rattle.at_model.specs.declared.rows.ClassRow.{ClassRow}
use Rattle.at_model.specs.World.{order_in, find_by}
use Rattle.at_model.specs.Attributes.{classes_after_in}

-- the name's value in the first class of c's order that has the name itself
abbrev pub found_in : List (Option ClassRow) → ℕ → ℕ → Option value.Value
found_in classes c n = find_by classes (order_in classes c) n

-- the same of the classes after k in c's order
abbrev pub found_after : List (Option ClassRow) → ℕ → ℕ → ℕ → Option value.Value
found_after classes k c n = find_by classes (classes_after_in k (order_in classes c)) n
