-- Worlds: classes, objects and dictionaries, the order of a class, and what a name is in it.
-- After the Python language reference, "Objects, values and types" and "Custom classes".
use Rattle.std.specs.Prelude.{ℕ, zero, suc, ◌≡◌, ◌<◌, ◌≤◌, ◌-◌, ◌⊎◌, List, [], ◌∷◌, length, map, replicate, Option, Some, None, slice_index_or, IsTrue, is_some, nat_eq, All, Contains}
use Rattle.std.specs.List.{IsDistinct}
use Rattle.at_c3.specs.Merge.{order_of_lists}
use Rattle.at_value.specs.Numbers.{object}
use Rattle.at_value.specs.Pairs.{value_at, IsRising}
use Rattle.at_value.specs.declared.value.Value as value
use Rattle.at_value.specs.declared.value.Value.TheVariants as values
use Rattle.at_value.specs.Widths as widths
use Rattle.at_model.specs.declared.rows.ClassRow.{ClassRow}
use Rattle.at_model.specs.declared.rows.Object.{Object}

-- names with values, by rising name number
abbrev pub Map : Type 0
Map = List (ℕ × value.Value)

-- The classes by number, none where a class isn't made, each with its bases and the names of its own; the objects by
-- number, each with its class and the dictionary that it names; and the dictionaries, by the number of the object that
-- was born with each.
pub record World : Type 0 where
  pub classes : List (Option ClassRow)
  pub objects : List Object
  pub dicts : List Map

-- what a world has of a class, where it is made
abbrev pub row_of : List (Option ClassRow) → ℕ → Option ClassRow
row_of classes c = slice_index_or classes c None

-- Orders

-- this order and those that follow it
abbrev pub order_before : List ℕ → Option (List (List ℕ)) → Option (List (List ℕ))
order_before order None = None
order_before order (Some orders) = Some (order ∷ orders)

-- the orders, where each of them is there
abbrev pub all_orders : List (Option (List ℕ)) → Option (List (List ℕ))
all_orders [] = Some []
all_orders (None ∷ orders) = None
all_orders (Some order ∷ orders) = order_before order (all_orders orders)

-- the order of c with these bases, where each base has an order
abbrev pub merged_order : ℕ → List ℕ → Option (List (List ℕ)) → Option (List ℕ)
merged_order c bases None = None
merged_order c bases (Some orders) = order_of_lists c bases orders

abbrev pub order_of_row : (ℕ → Option (List ℕ)) → ℕ → Option ClassRow → Option (List ℕ)
order_of_row order c None = None
order_of_row order c (Some row) = merged_order c row.bases (all_orders (map order row.bases))

-- The order of a class by C3: the class, and then the merge of the orders of its bases and of the list of its bases. It is
-- computed from the bases alone, and is none where the class isn't made, where the merge is none, and where a chain of
-- bases has more classes than the number, c among them.
abbrev pub order_within : ℕ → List (Option ClassRow) → ℕ → Option (List ℕ)
order_within zero classes c = None
order_within (suc n) classes c = order_of_row (order_within n classes) c (row_of classes c)

-- A chain of bases that comes back to no class is no longer than the list of classes.
abbrev pub order_in : List (Option ClassRow) → ℕ → Option (List ℕ)
order_in classes c = order_within (suc (length classes)) classes c

abbrev pub order_of : World → ℕ → Option (List ℕ)
order_of w c = order_in w.classes c

-- Finding a name

-- a class with these bases and without names
abbrev pub new_row : List ℕ → ClassRow
new_row bases = record { bases = bases; own = [] }

-- what a world has of a class, and no base and no name where it isn't made
abbrev pub row_or_empty : Option ClassRow → ClassRow
row_or_empty None = new_row []
row_or_empty (Some row) = row

abbrev pub own_of : Option ClassRow → Map
own_of row = (row_or_empty row).own

abbrev pub bases_of : Option ClassRow → List ℕ
bases_of row = (row_or_empty row).bases

abbrev pub or_else : Option value.Value → Option value.Value → Option value.Value
or_else None second = second
or_else (Some v) second = Some v

-- the name's value in the first of these classes that has the name itself
abbrev pub find_along : List (Option ClassRow) → List ℕ → ℕ → Option value.Value
find_along classes [] n = None
find_along classes (c ∷ cs) n = or_else (value_at n (own_of (row_of classes c))) (find_along classes cs n)

abbrev pub find_by : List (Option ClassRow) → Option (List ℕ) → ℕ → Option value.Value
find_by classes None n = None
find_by classes (Some order) n = find_along classes order n

-- the name's value in the first class of c's order that has the name itself
abbrev pub find_in : World → ℕ → ℕ → Option value.Value
find_in w c n = find_by w.classes (order_of w c) n

-- The opening world, and worlds that are whole

-- the world of the class `object` alone, which has no base and no name
abbrev pub opening : World
opening = record { classes = Some (new_row []) ∷ replicate (widths.classes - 1) None; objects = []; dicts = [] }

abbrev pub IsMade : World → ℕ → Type 0
IsMade w c = IsTrue (is_some (row_of w.classes c))

abbrev pub IsBase : World → ℕ → ℕ → Type 0
IsBase w b c = Contains (bases_of (row_of w.classes c)) b

-- a stands above c by a chain of at most n bases
abbrev pub IsAboveBy : ℕ → World → ℕ → ℕ → Type 0
IsAboveBy zero w a c = ⊥
IsAboveBy (suc n) w a c = (b : ℕ) × IsBase w b c × ((a ≡ b) ⊎ IsAboveBy n w a b)

-- the class or object that a value names is there
abbrev pub NamesMade : World → value.Value → Type 0
NamesMade w (values.Class c) = IsMade w c
NamesMade w (values.Obj o) = o < length w.objects
NamesMade w values.Nothing = Unit {0}
NamesMade w (values.Int z) = Unit {0}
NamesMade w (values.Text n) = Unit {0}
NamesMade w (values.Func f) = Unit {0}
NamesMade w (values.Prop p) = Unit {0}
NamesMade w (values.Static f) = Unit {0}
NamesMade w (values.ClassM f) = Unit {0}

abbrev pub AllNameMade : World → Map → Type 0
AllNameMade w names = All (λ (pair : ℕ × value.Value). NamesMade w pair.1) names

-- a map from names to values, by rising name number, whose values name what is there
pub record IsNamespace (w : World) (names : Map) : Type 0 where
  pub rising : IsRising names
  pub named : AllNameMade w names

-- A well-formed world: it has a row for each class number that there may be, and 0 is `object`, without bases and names; each
-- base, class, object and dictionary that is named is there; no class has a base twice or stands above itself, and each has
-- an order; the own maps and the dictionaries rise by name; there are no more objects than there may be, and a dictionary
-- for each.
pub record IsWellFormed (w : World) : Type 0 where
  pub numbered : length w.classes ≡ widths.classes
  pub rooted : row_of w.classes object ≡ Some (new_row [])
  pub based : (c b : ℕ) → IsBase w b c → IsMade w b
  pub distinct : (c : ℕ) → IsDistinct nat_eq (bases_of (row_of w.classes c))
  pub acyclic : (n c : ℕ) → ¬ IsAboveBy n w c c
  pub ordered : (c : ℕ) → IsMade w c → (order : List ℕ) × (order_of w c ≡ Some order)
  pub owned : (c : ℕ) → IsNamespace w (own_of (row_of w.classes c))
  pub few : length w.objects ≤ widths.objects
  pub placed : All (λ (o : Object). IsMade w o.class × (o.dict < length w.objects)) w.objects
  pub paired : length w.dicts ≡ length w.objects
  pub filled : All (IsNamespace w) w.dicts
