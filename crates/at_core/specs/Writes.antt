-- What a write may change of objects and dictionaries, and what it needs of locks for that.
use Rattle.std.specs.Prelude.{ℕ, ◌≡◌, Bool, true, false, List, [], ◌∷◌, length, Option, Some, None, slice_get, Contains}
use Rattle.at_value.specs.declared.operation.Op as op
use Rattle.at_value.specs.declared.operation.Op.TheVariants as ops
use Rattle.at_model.specs.declared.rows.Object.{Object}
use Rattle.at_model.specs.World.{World}
use Rattle.at_model.specs.Step.{step, is_write}
use Rattle.at_line.specs.Kept.{rows_of}
use Rattle.at_core.specs.declared.lock.Lock.TheVariants as locks
use Rattle.at_core.specs.Locks.{IsUnchanged}

-- The objects of which an operation changes the class or the name of the dictionary: that of `o.__class__ = c`, the first of
-- `o.__dict__ = p.__dict__`, and the one that is made.
abbrev pub moved_by : World → op.Op → List ℕ
moved_by w (ops.NewClass c bases) = []
moved_by w (ops.TypeSet c n v) = []
moved_by w (ops.TypeDel c n) = []
moved_by w (ops.SetBases c bases) = []
moved_by w (ops.New c) = length w.objects ∷ []
moved_by w (ops.Set o n v) = []
moved_by w (ops.Del o n) = []
moved_by w (ops.SetClass o c) = o ∷ []
moved_by w (ops.Share o p) = o ∷ []
moved_by w (ops.Get o n) = []
moved_by w (ops.TypeGet c n) = []
moved_by w (ops.Super k o n) = []
moved_by w (ops.Special o n) = []
moved_by w (ops.ClassOf o) = []
moved_by w (ops.Mro c) = []

-- an operation that may change what the lock of the types protects: classes, and the classes and dictionary names of objects
abbrev pub needs_types : op.Op → Bool
needs_types (ops.NewClass c bases) = true
needs_types (ops.TypeSet c n v) = true
needs_types (ops.TypeDel c n) = true
needs_types (ops.SetBases c bases) = true
needs_types (ops.New c) = true
needs_types (ops.Set o n v) = false
needs_types (ops.Del o n) = false
needs_types (ops.SetClass o c) = true
needs_types (ops.Share o p) = true
needs_types (ops.Get o n) = false
needs_types (ops.TypeGet c n) = false
needs_types (ops.Super k o n) = false
needs_types (ops.Special o n) = false
needs_types (ops.ClassOf o) = false
needs_types (ops.Mro c) = false

-- the dictionary that an object names
abbrev pub dict_named : Option Object → List ℕ
dict_named None = []
dict_named (Some found) = found.dict ∷ []

-- the dictionaries whose values an operation replies: that which the object of `o.x` names
abbrev pub read_by : World → op.Op → List ℕ
read_by w (ops.NewClass c bases) = []
read_by w (ops.TypeSet c n v) = []
read_by w (ops.TypeDel c n) = []
read_by w (ops.SetBases c bases) = []
read_by w (ops.New c) = []
read_by w (ops.Set o n v) = []
read_by w (ops.Del o n) = []
read_by w (ops.SetClass o c) = []
read_by w (ops.Share o p) = []
read_by w (ops.Get o n) = dict_named (slice_get w.objects o)
read_by w (ops.TypeGet c n) = []
read_by w (ops.Super k o n) = []
read_by w (ops.Special o n) = []
read_by w (ops.ClassOf o) = []
read_by w (ops.Mro c) = []

-- What locks say of an operation

-- one that needs no lock of the types leaves what that protects
abbrev pub LeavesTypes : Type 0
LeavesTypes = (w : World) (operation : op.Op) → needs_types operation ≡ false → IsUnchanged locks.Types w (step w operation).world

-- one leaves the class and the dictionary name of each object that it doesn't move
abbrev pub LeavesObjects : Type 0
LeavesObjects = (w : World) (operation : op.Op) (o : ℕ) → ¬ Contains (moved_by w operation) o → slice_get (step w operation).world.objects o ≡ slice_get w.objects o

-- one leaves what the lock of a row protects, where the row is none of its rows and its object isn't moved
abbrev pub LeavesRows : Type 0
LeavesRows =
    (w : World) (operation : op.Op) (o : ℕ) → length w.dicts ≡ length w.objects → ¬ Contains (rows_of w operation) o → ¬ Contains (moved_by w operation) o
    → IsUnchanged (locks.Row o) w (step w operation).world

-- Between two worlds the classes and objects are the same, and what the rows of the operation protect, and that of the
-- dictionary that it reads.
pub record IsHeld (w now : World) (operation : op.Op) : Type 0 where
  pub types : IsUnchanged locks.Types w now
  pub rows : (o : ℕ) → Contains (rows_of w operation) o → IsUnchanged (locks.Row o) w now
  pub reads : (o : ℕ) → Contains (read_by w operation) o → IsUnchanged (locks.Row o) w now

-- the operation has the same reply, is a write at both or at neither, and has the same rows
pub record IsSameAt (w now : World) (operation : op.Op) : Type 0 where
  pub reply : (step now operation).reply ≡ (step w operation).reply
  pub write : is_write now operation ≡ is_write w operation
  pub rows : rows_of now operation ≡ rows_of w operation
  pub moved : moved_by now operation ≡ moved_by w operation

-- So it is for each operation where what it needs is held, whatever others write meanwhile.
abbrev pub HeldOperationsStay : Type 0
HeldOperationsStay = (w now : World) (operation : op.Op) → IsHeld w now operation → IsSameAt w now operation
