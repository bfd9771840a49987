-- What is kept beside the rows of the classes.
use Rattle.std.specs.Prelude.{ℕ, ◌≡◌, ◌-◌, false, List, [], ◌∷◌, length, replicate, Option}
use Rattle.at_value.specs.Widths as widths
use Rattle.at_model.specs.declared.rows.ClassRow.{ClassRow}
use Rattle.at_model.specs.World.{row_of, bases_of}
use Rattle.at_model.specs.Step.{has_repeat}
use Rattle.at_model.specs.StoredOrders.{AreOrders}
use Rattle.at_types.specs.Subclasses.{AreSubclasses}

-- The order beside each class that is made is its order, no class has a base twice, and the tree has each class below its
-- bases.
pub record AreKept (classes : List (Option ClassRow)) (orders tree : List (List ℕ)) : Type 0 where
  pub numbered : length classes ≡ widths.classes
  pub ordered : length orders ≡ widths.classes
  pub orders_are : AreOrders classes orders
  pub distinct : (d : ℕ) → has_repeat (bases_of (row_of classes d)) ≡ false
  pub subclasses : AreSubclasses classes tree

-- beside the class `object` alone
abbrev pub opening_orders : List (List ℕ)
opening_orders = (0 ∷ []) ∷ replicate (widths.classes - 1) []

-- What is true of the classes that are kept: there is a row for each number, and each class that is made has an order.
pub record AreWhole (classes : List (Option ClassRow)) : Type 0 where
  pub numbered : length classes ≡ widths.classes
  pub stored : (orders : List (List ℕ)) × AreOrders classes orders
