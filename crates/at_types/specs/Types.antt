-- What contracts see of `Types`, and what operations on classes do to it.
use Rattle.std.specs.Prelude.{ℕ, ◌≡◌, ◌+◌, ◌≤◌, Bool, true, false, List, length, replicate, Option, Some, IsTrue, nat_lt, is_some, slice_set}
use Rattle.std.specs.List.{list_all}
use Rattle.at_value.specs.declared.value.Value as value
use Rattle.at_value.specs.declared.operation.Op as op
use Rattle.at_value.specs.declared.operation.Op.TheVariants as ops
use Rattle.at_value.specs.declared.reply.Reply as reply
use Rattle.at_model.specs.declared.rows.ClassRow.{ClassRow}
use Rattle.at_value.specs.Widths as widths
use Rattle.at_model.specs.World.{World, row_of, order_in, opening}
use Rattle.at_model.specs.Step.{step, class_in, object_in}
use Rattle.at_types.specs.Tags.{TagState, IsPool, full_pool}

-- The classes by number, none where a class isn't made; how many objects there are; for each number of a pass whether it
-- is free; and the tags.
pub record TypesState : Type 0 where
  pub classes : List (Option ClassRow)
  pub objects : ℕ
  pub numbers : List Bool
  pub tags : TagState

-- the class `object` alone, each number free, and a pool of this many tags
abbrev pub opened : ℕ → TypesState
opened tags = record { classes = opening.classes; objects = 0; numbers = replicate widths.passes true; tags = full_pool tags }

-- What is true of every `Types`.
pub record IsTypes (t : TypesState) : Type 0 where
  -- there is a row for each class number, and each class that is made has an order
  pub numbered : length t.classes ≡ widths.classes
  pub ordered : (c : ℕ) → IsTrue (is_some (row_of t.classes c)) → (order : List ℕ) × (order_in t.classes c ≡ Some order)
  pub few : t.objects ≤ widths.objects
  pub passes : length t.numbers ≡ widths.passes
  pub pool : IsPool t.tags

-- What calls change

-- one more object
abbrev pub with_object : TypesState → TypesState
with_object t = record t { objects = t.objects + 1 }

-- the number of a pass is free, or it isn't
abbrev pub with_number : TypesState → ℕ → Bool → TypesState
with_number t q free = record t { numbers = slice_set t.numbers q free }

abbrev pub with_tags : TypesState → TagState → TypesState
with_tags t tags = record t { tags = tags }

-- The world has these classes, and as many objects.
pub record StandsFor (t : TypesState) (w : World) : Type 0 where
  pub classes : t.classes ≡ w.classes
  pub objects : t.objects ≡ length w.objects

-- the reply to the operation in each world that the state stands for
abbrev pub IsReplyTo : op.Op → TypesState → reply.Reply → Type 0
IsReplyTo operation t reply = (w : World) → StandsFor t w → reply ≡ (step w operation).reply

-- The reply and the classes are those of the operation, in each world that the state stands for; nothing else changes.
pub record IsStepped (operation : op.Op) (old new : TypesState) (reply : reply.Reply) : Type 0 where
  pub replies : IsReplyTo operation old reply
  pub stands : (w : World) → StandsFor old w → StandsFor new (step w operation).world
  pub rest : new ≡ record old { classes = new.classes }

-- an operation that changes classes
abbrev pub is_class_write : op.Op → Bool
is_class_write (ops.NewClass c bases) = true
is_class_write (ops.TypeSet c n v) = true
is_class_write (ops.TypeDel c n) = true
is_class_write (ops.SetBases c bases) = true
is_class_write (ops.New c) = false
is_class_write (ops.Set o n v) = false
is_class_write (ops.Del o n) = false
is_class_write (ops.SetClass o c) = false
is_class_write (ops.Share o p) = false
is_class_write (ops.Get o n) = false
is_class_write (ops.TypeGet c n) = false
is_class_write (ops.Super k o n) = false
is_class_write (ops.Special o n) = false
is_class_write (ops.ClassOf o) = false
is_class_write (ops.Mro c) = false

-- the object that the value is, and the class, is made
abbrev pub has_objects : TypesState → value.Value → Bool
has_objects t v = list_all (λ o. nat_lt o t.objects) (object_in v)

abbrev pub has_classes : TypesState → value.Value → Bool
has_classes t v = list_all (λ c. is_some (row_of t.classes c)) (class_in v)
