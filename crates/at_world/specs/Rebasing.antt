-- private: about the stored orders; no public clause cites it. What is known of the orders while a class is given other
-- bases.
use Rattle.std.specs.Prelude.{ℕ, suc, Bool, not, ◌==◌, ◌≡◌, ◌<◌, ◌≤◌, ◌&&◌, false, List, [], ◌∷◌, length, Option, Some, None, if◌then◌else◌, IsTrue, is_some, slice_index_or}
use Rattle.at_model.specs.declared.rows.ClassRow.{ClassRow}
use Rattle.at_model.specs.World.{row_of, order_in}
use Rattle.at_model.specs.Step.{has_number, is_empty}
use Rattle.at_world.specs.Plain.{order_or_none}

-- the list of class d is its order, or empty where it has none
abbrev pub IsNewOrder : List (Option ClassRow) → List (List ℕ) → ℕ → Type 0
IsNewOrder changed orders d = order_in changed d ≡ order_or_none (slice_index_or orders d [])

-- the list of each class that is made is its order, or empty where it has none
abbrev pub AreNewOrders : List (Option ClassRow) → List (List ℕ) → Type 0
AreNewOrders changed orders = (d : ℕ) → IsTrue (is_some (row_of changed d)) → IsNewOrder changed orders d

-- class d is below c, and its order has one class more than `long`
abbrev pub is_due : ℕ → ℕ → ℕ → List ℕ → Bool
is_due c long d order = not (d == c) && (length order == suc long && has_number c order)

-- the row of a class of which that is true
abbrev pub due_row : List (Option ClassRow) → List (List ℕ) → ℕ → ℕ → ℕ → Option ClassRow
due_row classes was c long d = if is_due c long d (slice_index_or was d []) then row_of classes d else None

-- the least number, from this one on, of a class that is made and whose list is empty
abbrev pub first_empty : ℕ → List (Option ClassRow) → List (List ℕ) → Option ℕ
first_empty c [] orders = None
first_empty c (row ∷ rows) orders = if is_some row && is_empty (slice_index_or orders c []) then Some c else first_empty (suc c) rows orders

-- The lists that are new orders already, of the classes that are made: that of c, those of classes that c didn't stand
-- above, those whose orders had at most `long` classes, and of those that had one more, the ones of a number below next.
pub record AreRenewed (changed classes : List (Option ClassRow)) (was : List (List ℕ)) (c long next : ℕ) (orders : List (List ℕ)) : Type 0 where
  pub subject : IsNewOrder changed orders c
  pub apart : (d : ℕ) → IsTrue (is_some (row_of classes d)) → has_number c (slice_index_or was d []) ≡ false → IsNewOrder changed orders d
  pub shorter : (d : ℕ) → IsTrue (is_some (row_of classes d)) → length (slice_index_or was d []) ≤ long → IsNewOrder changed orders d
  pub as_long : (d : ℕ) → IsTrue (is_some (row_of classes d)) → length (slice_index_or was d []) ≡ suc long → d < next → IsNewOrder changed orders d
