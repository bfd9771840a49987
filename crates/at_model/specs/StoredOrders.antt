-- Orders that stand beside their classes, so that a look-up computes none.
use Rattle.std.specs.Prelude.{ℕ, ◌≡◌, List, [], Option, Some, IsTrue, is_some, slice_index_or}
use Rattle.at_model.specs.declared.rows.ClassRow.{ClassRow}
use Rattle.at_model.specs.World.{row_of, order_in}

-- the order that stands beside each class that is made is its order
abbrev pub AreOrders : List (Option ClassRow) → List (List ℕ) → Type 0
AreOrders classes orders = (c : ℕ) → IsTrue (is_some (row_of classes c)) → order_in classes c ≡ Some (slice_index_or orders c [])
