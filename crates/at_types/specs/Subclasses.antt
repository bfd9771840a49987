-- The direct subclasses of each class, and walks over a class and all that lies below it.
use Rattle.std.specs.Prelude.{ℕ, ◌≡◌, ◌≢◌, ◌↔◌, ◌⊎◌, true, false, Bool, IsTrue, List, ◌∷◌, ◌++◌, length, Option, All, Contains, slice_index_or}
use Rattle.at_tree.specs.Tree.{children}
use Rattle.at_tree.specs.Walk.{IsWalk}
use Rattle.at_value.specs.Widths as widths
use Rattle.at_model.specs.declared.rows.ClassRow.{ClassRow}
use Rattle.at_model.specs.World.{row_of, bases_of, order_in}
use Rattle.at_model.specs.Step.{is_in_order}

-- the tree has a class directly below another exactly where that is one of its bases
pub record AreSubclasses (classes : List (Option ClassRow)) (tree : List (List ℕ)) : Type 0 where
  pub numbered : length tree ≡ widths.classes
  pub below : (b d : ℕ) → Contains (children tree b) d ↔ Contains (bases_of (row_of classes d)) b

-- The list is in the order of a walk from c, where no class below one that `stop` marks is entered. The direct subclasses
-- of a class may stand in any order.
abbrev pub IsSubclassWalk : List (Option ClassRow) → List Bool → ℕ → List ℕ → Type 0
IsSubclassWalk classes stop c list = (tree : List (List ℕ)) × AreSubclasses classes tree × IsWalk tree stop c list

-- the list is in the order of a walk from c that enters each class below it
abbrev pub IsWholeWalk : List (Option ClassRow) → ℕ → List ℕ → Type 0
IsWholeWalk classes c list = (stop : List Bool) × All (λ marked. marked ≡ false) stop × IsSubclassWalk classes stop c list

-- Marks that are closed downward: a class in whose order a marked class stands is marked.
abbrev pub AreClosedBelow : List (Option ClassRow) → List Bool → Type 0
AreClosedBelow classes stop =
    (c d : ℕ) → slice_index_or stop c false ≡ true → IsTrue (is_in_order c (order_in classes d))
    → slice_index_or stop d false ≡ true

-- one of the class's bases is unmarked and in the list
abbrev pub HasUnmarkedBase : List (Option ClassRow) → List Bool → List ℕ → ℕ → Type 0
HasUnmarkedBase classes stop list d =
    (b : ℕ) × (slice_index_or stop b false ≡ false) × Contains (bases_of (row_of classes d)) b × Contains list b

-- What a list of c and of classes below it tells of orders, where the marks are closed downward.
pub record IsBelow (classes : List (Option ClassRow)) (stop : List Bool) (c : ℕ) (list : List ℕ) : Type 0 where
  -- an unmarked class is in the list exactly where c stands in its order
  pub unmarked :
      (d : ℕ) → slice_index_or stop d false ≡ false
      → Contains list d ↔ IsTrue (is_in_order c (order_in classes d))
  -- a marked one exactly where it is c, or has a base that is unmarked and in the list
  pub marked :
      (d : ℕ) → slice_index_or stop d false ≡ true
      → Contains list d ↔ ((c ≡ d) ⊎ HasUnmarkedBase classes stop list d)
  -- each class stands after each unmarked class in whose order it is
  pub unmarked_first :
      (prefix suffix : List ℕ) (d e : ℕ) → list ≡ prefix ++ d ∷ suffix → d ≢ e
      → slice_index_or stop e false ≡ false → IsTrue (is_in_order d (order_in classes e)) → Contains prefix e
