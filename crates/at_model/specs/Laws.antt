-- The laws of orders, and of the worlds that operations lead to. Those of orders are what Barrett and others, "A
-- Monotonic Superclass Linearization for Dylan" (1996), ask of a linearization.
use Rattle.std.specs.Prelude.{ℕ, ◌≡◌, ◌⊎◌, ◌↔◌, Bool, true, false, IsTrue, List, ◌∷◌, Option, Some, nat_eq, Contains}
use Rattle.std.specs.List.{IsDistinct}
use Rattle.at_c3.specs.Laws.{IsSubsequence}
use Rattle.at_value.specs.declared.operation.Op as op
use Rattle.at_value.specs.declared.operation.Op.TheVariants as ops
use Rattle.at_model.specs.World.{World, row_of, bases_of, order_of_row, order_of, IsAboveBy, IsWellFormed, opening}
use Rattle.at_model.specs.Step.{step, is_write}
use Rattle.at_model.specs.History.{replay}

-- Orders

-- The order that each class is given is the class, and then the merge of the orders of its bases and of the list of its
-- bases.
abbrev pub AreMerges : World → (ℕ → Option (List ℕ)) → Type 0
AreMerges w order = (c : ℕ) → order c ≡ order_of_row order c (row_of w.classes c)

-- the orders of a world are so, without a bound on the chains of bases
abbrev pub OrdersAreMerges : Type 0
OrdersAreMerges = (w : World) → AreMerges w (order_of w)

-- in a well-formed world they alone are so
abbrev pub OrdersAreUnique : Type 0
OrdersAreUnique = (w : World) (order : ℕ → Option (List ℕ)) → IsWellFormed w → AreMerges w order → (c : ℕ) → order c ≡ order_of w c

-- a stands above c by a chain of bases
abbrev pub IsAbove : World → ℕ → ℕ → Type 0
IsAbove w a c = (n : ℕ) × IsAboveBy n w a c

-- The order begins with class c. It has c and the classes above it, and no other, each once. It preserves the order in which
-- each of its classes lists its bases (local precedence), and the order of each of its classes (monotonicity).
pub record IsLinearization (w : World) (c : ℕ) (order : List ℕ) : Type 0 where
  pub first : (rest : List ℕ) × (order ≡ c ∷ rest)
  pub members : (a : ℕ) → Contains order a ↔ ((a ≡ c) ⊎ IsAbove w a c)
  pub once : IsDistinct nat_eq order
  pub bases_preserved : (a : ℕ) → Contains order a → IsSubsequence (bases_of (row_of w.classes a)) order
  pub orders_preserved : (a : ℕ) → Contains order a → (inner : List ℕ) × (order_of w a ≡ Some inner) × IsSubsequence inner order

abbrev pub OrdersAreLinearizations : Type 0
OrdersAreLinearizations = (w : World) (c : ℕ) (order : List ℕ) → order_of w c ≡ Some order → IsLinearization w c order

-- Worlds

-- an operation leads from a well-formed world to a well-formed one
abbrev pub StepsKeepWellFormed : Type 0
StepsKeepWellFormed = (w : World) (operation : op.Op) → IsWellFormed w → IsWellFormed (step w operation).world

-- every list of operations leads from a well-formed world to a well-formed one
abbrev pub ReplaysAreWellFormed : Type 0
ReplaysAreWellFormed = (opened : World) (operations : List op.Op) → IsWellFormed opened → IsWellFormed (replay opened operations)

-- the opening world of scripts is well formed
abbrev pub OpeningIsWellFormed : Type 0
OpeningIsWellFormed = IsWellFormed opening

-- an operation that isn't a write leaves the world as it is
abbrev pub OnlyWritesChangeWorlds : Type 0
OnlyWritesChangeWorlds = (w : World) (operation : op.Op) → is_write w operation ≡ false → (step w operation).world ≡ w

-- an operation that reads
abbrev pub is_read : op.Op → Bool
is_read (ops.Get o n) = true
is_read (ops.TypeGet c n) = true
is_read (ops.Super k o n) = true
is_read (ops.Special o n) = true
is_read (ops.ClassOf o) = true
is_read (ops.Mro c) = true
is_read (ops.NewClass c bases) = false
is_read (ops.TypeSet c n v) = false
is_read (ops.TypeDel c n) = false
is_read (ops.SetBases c bases) = false
is_read (ops.New c) = false
is_read (ops.Set o n v) = false
is_read (ops.Del o n) = false
is_read (ops.SetClass o c) = false
is_read (ops.Share o p) = false

-- it is never a write
abbrev pub ReadsAreNoWrites : Type 0
ReadsAreNoWrites = (w : World) (operation : op.Op) → IsTrue (is_read operation) → is_write w operation ≡ false
