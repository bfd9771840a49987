-- What is known of orders while a class is given other bases.
use Rattle.std.specs.Prelude.{ℕ, suc, ◌≡◌, ◌==◌, Bool, true, false, List, [], ◌∷◌, length, drop, map, Option, Some, None, if◌then◌else◌, IsTrue, is_some, unwrap_or, slice_index_or, All, Contains}
use Rattle.smallvec.specs.SmallVec.{SmallVec}
use Rattle.at_value.specs.Classes.{AreClasses}
use Rattle.at_value.specs.Widths as widths
use Rattle.at_model.specs.declared.rows.ClassRow.{ClassRow}
use Rattle.at_model.specs.World.{row_of, bases_of, order_in}

-- For each class the order that was computed anew, where one was: it may be none.
abbrev pub NewOrders : Type 0
NewOrders = List (Option (Option (List ℕ)))

-- the order of class d: the one that was computed anew, else the one that it has in these classes
abbrev pub order_now : List (Option ClassRow) → NewOrders → ℕ → Option (List ℕ)
order_now classes renewed d = unwrap_or (slice_index_or renewed d None) (order_in classes d)

-- the bases of class d, once c has these
abbrev pub new_bases : List (Option ClassRow) → ℕ → List ℕ → ℕ → List ℕ
new_bases classes c bases d = if d == c then bases else bases_of (row_of classes d)

-- it is the order of the class in the changed classes
abbrev pub IsRight : List (Option ClassRow) → List (Option ClassRow) → NewOrders → ℕ → Type 0
IsRight classes changed renewed d = order_in changed d ≡ order_now classes renewed d

-- the orders of all classes that are made are those in the changed classes, and no other class has one
pub record AreRenewed (classes changed : List (Option ClassRow)) (renewed : NewOrders) : Type 0 where
  pub numbered : length renewed ≡ widths.classes
  pub right : (d : ℕ) → IsTrue (is_some (row_of changed d)) → IsRight classes changed renewed d
  pub others : (d : ℕ) → row_of changed d ≡ None → slice_index_or renewed d None ≡ None

-- Orders were computed anew for the classes of the list from the index on, and for no other.
pub record AreRenewedFrom (classes changed : List (Option ClassRow)) (list : List ℕ) (left : ℕ) (renewed : NewOrders) : Type 0 where
  pub numbered : length renewed ≡ widths.classes
  pub others : (d : ℕ) → ¬ Contains (drop left list) d → slice_index_or renewed d None ≡ None
  pub right : (d : ℕ) → Contains (drop left list) d → IsRight classes changed renewed d

abbrev pub is_lost : Option (Option (List ℕ)) → Bool
is_lost (Some None) = true
is_lost (Some (Some order)) = false
is_lost None = false

-- the least number, from this one on, of a class whose new order is none
abbrev pub first_lost : ℕ → NewOrders → Option ℕ
first_lost c [] = None
first_lost c (order ∷ orders) = if is_lost order then Some c else first_lost (suc c) orders

abbrev pub replaced_order : Option (Option (List ℕ)) → List ℕ → List ℕ
replaced_order (Some (Some order)) was = order
replaced_order (Some None) was = was
replaced_order None was = was

-- each order that was computed anew is in the place of the stored one
abbrev pub AreReplaced : List (List ℕ) → NewOrders → List (List ℕ) → Type 0
AreReplaced was renewed orders =
    (d : ℕ) → slice_index_or orders d [] ≡ replaced_order (slice_index_or renewed d None) (slice_index_or was d [])

-- what lists of numbers contain
abbrev pub lists_of : List (SmallVec ℕ) → List (List ℕ)
lists_of lists = map (λ l. l.items) lists

-- each number of each list is that of a class
abbrev pub AllAreClasses : List (List ℕ) → Type 0
AllAreClasses lists = All AreClasses lists
