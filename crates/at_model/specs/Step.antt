-- What each operation replies, and the world that it leaves.
-- The refusals are tried in this order, by each operation that can meet them: an object that isn't made (`NoAttr`), a
-- class that isn't made (`NoClass`), `NameTaken`, `Immutable`, `EmptyBases`, `Duplicate`, `Cycle`, `NoOrder`, `Full`, and
-- then what the attribute tables refuse. Every refusal leaves the world as it is.
-- After the Python language reference, "Custom classes" and "Class instances", on what may be assigned to `__bases__`,
-- `__class__` and `__dict__`.
use Rattle.std.specs.Prelude.{ℕ, suc, ◌==◌, nat_lt, nat_le, Bool, true, false, not, ◌||◌, ◌&&◌, List, [], ◌∷◌, ◌++◌, length, set, Option, Some, None, is_some, is_none, if◌then◌else◌, slice_get}
use Rattle.std.specs.List.{list_any, list_all}
use Rattle.at_value.specs.Numbers.{object, init}
use Rattle.at_value.specs.Pairs.{value_at, with_value, without}
use Rattle.at_value.specs.declared.value.Value as value
use Rattle.at_value.specs.declared.value.Value.TheVariants as values
use Rattle.at_value.specs.declared.operation.Op as op
use Rattle.at_value.specs.declared.operation.Op.TheVariants as ops
use Rattle.at_value.specs.declared.reply.Reply as reply
use Rattle.at_value.specs.declared.reply.Reply.TheVariants as replies
use Rattle.at_value.specs.Widths as widths
use Rattle.at_model.specs.declared.rows.ClassRow.{ClassRow}
use Rattle.at_model.specs.declared.rows.Object.{Object}
use Rattle.at_model.specs.World.{World, Map, row_of, new_row, row_or_empty, own_of, order_of, find_in}
use Rattle.at_model.specs.Attributes.{Outcome, unchanged, get_reply, special_reply, super_reply, type_get_reply, class_of_reply, mro_reply, set_effect, del_effect}

-- What an operation names

abbrev pub class_in : value.Value → List ℕ
class_in (values.Class c) = c ∷ []
class_in values.Nothing = []
class_in (values.Int z) = []
class_in (values.Text n) = []
class_in (values.Func f) = []
class_in (values.Prop p) = []
class_in (values.Static f) = []
class_in (values.ClassM f) = []
class_in (values.Obj o) = []

abbrev pub object_in : value.Value → List ℕ
object_in (values.Obj o) = o ∷ []
object_in values.Nothing = []
object_in (values.Int z) = []
object_in (values.Text n) = []
object_in (values.Func f) = []
object_in (values.Prop p) = []
object_in (values.Static f) = []
object_in (values.ClassM f) = []
object_in (values.Class c) = []

-- the classes that an operation names, as subject, base or value; the class that `NewClass` is to make isn't among them
abbrev pub classes_in : op.Op → List ℕ
classes_in (ops.NewClass c bases) = bases
classes_in (ops.TypeSet c n v) = c ∷ class_in v
classes_in (ops.TypeDel c n) = c ∷ []
classes_in (ops.SetBases c bases) = c ∷ bases
classes_in (ops.New c) = c ∷ []
classes_in (ops.Set o n v) = class_in v
classes_in (ops.Del o n) = []
classes_in (ops.SetClass o c) = c ∷ []
classes_in (ops.Share o p) = []
classes_in (ops.Get o n) = []
classes_in (ops.TypeGet c n) = c ∷ []
classes_in (ops.Super k o n) = k ∷ []
classes_in (ops.Special o n) = []
classes_in (ops.ClassOf o) = []
classes_in (ops.Mro c) = c ∷ []

-- the objects that an operation names, as subject, second object or value
abbrev pub objects_in : op.Op → List ℕ
objects_in (ops.NewClass c bases) = []
objects_in (ops.TypeSet c n v) = object_in v
objects_in (ops.TypeDel c n) = []
objects_in (ops.SetBases c bases) = []
objects_in (ops.New c) = []
objects_in (ops.Set o n v) = o ∷ object_in v
objects_in (ops.Del o n) = o ∷ []
objects_in (ops.SetClass o c) = o ∷ []
objects_in (ops.Share o p) = o ∷ p ∷ []
objects_in (ops.Get o n) = o ∷ []
objects_in (ops.TypeGet c n) = []
objects_in (ops.Super k o n) = o ∷ []
objects_in (ops.Special o n) = o ∷ []
objects_in (ops.ClassOf o) = o ∷ []
objects_in (ops.Mro c) = []

abbrev pub is_made : World → ℕ → Bool
is_made w c = is_some (row_of w.classes c)

abbrev pub are_made : World → List ℕ → Bool
are_made w classes = list_all (is_made w) classes

abbrev pub are_objects : World → List ℕ → Bool
are_objects w objects = list_all (λ o. nat_lt o (length w.objects)) objects

-- Classes

abbrev pub has_number : ℕ → List ℕ → Bool
has_number c classes = list_any (λ x. x == c) classes

abbrev pub has_repeat : List ℕ → Bool
has_repeat [] = false
has_repeat (c ∷ cs) = has_number c cs || has_repeat cs

abbrev pub is_empty : List ℕ → Bool
is_empty [] = true
is_empty (c ∷ cs) = false

-- the least number, from this one on, of a class that is made and has no order
abbrev pub first_unordered_from : World → ℕ → List (Option ClassRow) → Option ℕ
first_unordered_from w c [] = None
first_unordered_from w c (row ∷ rows) = if is_some row && is_none (order_of w c) then Some c else first_unordered_from w (suc c) rows

-- the least number of a class that is made and has no order
abbrev pub first_unordered : World → Option ℕ
first_unordered w = first_unordered_from w 0 w.classes

-- the changed world, where each class has an order there, else the world as it was
abbrev pub unless_unordered : World → World → Option ℕ → Outcome
unless_unordered w changed None = record { reply = replies.Done; world = changed }
unless_unordered w changed (Some k) = unchanged w (replies.NoOrder k)

abbrev pub if_ordered : World → World → Outcome
if_ordered w changed = unless_unordered w changed (first_unordered changed)

-- whether a class can't be changed and has no objects of its own: so is `object`
abbrev pub is_fixed : World → ℕ → Bool
is_fixed w c = c == object

-- the world in which c is made, with these bases and no name
abbrev pub with_class : World → ℕ → List ℕ → World
with_class w c bases = record w { classes = set w.classes c (Some (new_row bases)) }

-- `class c(bases)`; where c is a number past the list of classes, nothing is made
abbrev pub new_class_effect : World → ℕ → List ℕ → Outcome
new_class_effect w c bases =
    if is_made w c
    then unchanged w replies.NameTaken
    else if is_empty bases
    then unchanged w replies.EmptyBases
    else if has_repeat bases then unchanged w replies.Duplicate else if_ordered w (with_class w c bases)

-- the classes in which c has these bases, and is else as it was
abbrev pub rebased : List (Option ClassRow) → ℕ → List ℕ → List (Option ClassRow)
rebased classes c bases = set classes c (Some (record (row_or_empty (row_of classes c)) { bases = bases }))

-- the world in which c has these bases
abbrev pub with_bases : World → ℕ → List ℕ → World
with_bases w c bases = record w { classes = rebased w.classes c bases }

-- c stands in the order, where there is one
abbrev pub is_in_order : ℕ → Option (List ℕ) → Bool
is_in_order c None = false
is_in_order c (Some order) = has_number c order

-- c stands above itself, were these its bases: it stands in the order of one of them
abbrev pub is_cycle : World → ℕ → List ℕ → Bool
is_cycle w c bases = list_any (λ b. is_in_order c (order_of w b)) bases

-- `c.__bases__ = bases`
abbrev pub set_bases_effect : World → ℕ → List ℕ → Outcome
set_bases_effect w c bases =
    if is_fixed w c
    then unchanged w replies.Immutable
    else if is_empty bases
    then unchanged w replies.EmptyBases
    else if has_repeat bases
    then unchanged w replies.Duplicate
    else if is_cycle w c bases then unchanged w replies.Cycle else if_ordered w (with_bases w c bases)

-- the classes in which c, whose row this is, has these names of its own
abbrev pub with_names : List (Option ClassRow) → ℕ → Option ClassRow → Map → List (Option ClassRow)
with_names classes c None names = classes
with_names classes c (Some row) names = set classes c (Some (record row { own = names }))

-- the world in which c's own names are these
abbrev pub with_own : World → ℕ → Map → World
with_own w c names = record w { classes = with_names w.classes c (row_of w.classes c) names }

-- `c.n = v`
abbrev pub type_set_effect : World → ℕ → ℕ → value.Value → Outcome
type_set_effect w c n v =
    if is_fixed w c
    then unchanged w replies.Immutable
    else record { reply = replies.Done; world = with_own w c (with_value n v (own_of (row_of w.classes c))) }

-- `del c.n`
abbrev pub type_del_effect : World → ℕ → ℕ → Outcome
type_del_effect w c n =
    if is_fixed w c
    then unchanged w replies.Immutable
    else if is_none (value_at n (own_of (row_of w.classes c)))
    then unchanged w replies.NoAttr
    else record { reply = replies.Done; world = with_own w c (without n (own_of (row_of w.classes c))) }

-- Objects

-- the new object has the next number, and an empty dictionary of that name
abbrev pub with_object : World → ℕ → World
with_object w c = record w { objects = w.objects ++ (record { class = c; dict = length w.objects }) ∷ []; dicts = w.dicts ++ [] ∷ [] }

-- `c()`
abbrev pub new_effect : World → ℕ → Outcome
new_effect w c =
    if is_fixed w c
    then unchanged w replies.Immutable
    else if nat_le widths.objects (length w.objects)
    then unchanged w replies.Full
    else record { reply = replies.Made (length w.objects) (find_in w c init); world = with_object w c }

-- the world in which the object is this
abbrev pub with_object_at : World → ℕ → Object → World
with_object_at w o now = record w { objects = set w.objects o now }

-- `o.__class__ = c`, for an object that was this
abbrev pub set_class_on : World → ℕ → ℕ → Option Object → Outcome
set_class_on w o c None = unchanged w replies.NoAttr
set_class_on w o c (Some was) =
    if is_fixed w c
    then unchanged w replies.Immutable
    else record { reply = replies.Done; world = with_object_at w o (record was { class = c }) }

-- `o.__dict__ = p.__dict__`, for an object that was this and one that is the other
abbrev pub share_on : World → ℕ → Option Object → Option Object → Outcome
share_on w o (Some was) (Some other) = record { reply = replies.Done; world = with_object_at w o (record was { dict = other.dict }) }
share_on w o was other = unchanged w replies.NoAttr

-- The operations

-- the effect of an operation all of whose classes and objects are there
abbrev pub effect : World → op.Op → Outcome
effect w (ops.NewClass c bases) = new_class_effect w c bases
effect w (ops.TypeSet c n v) = type_set_effect w c n v
effect w (ops.TypeDel c n) = type_del_effect w c n
effect w (ops.SetBases c bases) = set_bases_effect w c bases
effect w (ops.New c) = new_effect w c
effect w (ops.Set o n v) = set_effect w o n v
effect w (ops.Del o n) = del_effect w o n
effect w (ops.SetClass o c) = set_class_on w o c (slice_get w.objects o)
effect w (ops.Share o p) = share_on w o (slice_get w.objects o) (slice_get w.objects p)
effect w (ops.Get o n) = unchanged w (get_reply w o n)
effect w (ops.TypeGet c n) = unchanged w (type_get_reply w c n)
effect w (ops.Super k o n) = unchanged w (super_reply w k o n)
effect w (ops.Special o n) = unchanged w (special_reply w o n)
effect w (ops.ClassOf o) = unchanged w (class_of_reply w o)
effect w (ops.Mro c) = unchanged w (mro_reply w c)

-- the reply to an operation, and the world after it
abbrev pub step : World → op.Op → Outcome
step w operation =
    if not (are_objects w (objects_in operation))
    then unchanged w replies.NoAttr
    else if not (are_made w (classes_in operation)) then unchanged w replies.NoClass else effect w operation

-- whether the reply is that of a write
abbrev pub is_done : reply.Reply → Bool
is_done replies.Done = true
is_done (replies.Made o value) = true
is_done (replies.Value v) = false
is_done (replies.Method f v) = false
is_done (replies.Hook kind callee receiver other v) = false
is_done (replies.Order order) = false
is_done replies.NoAttr = false
is_done replies.NoGetter = false
is_done replies.NoSetter = false
is_done replies.NoDeleter = false
is_done replies.NoClass = false
is_done replies.NameTaken = false
is_done replies.EmptyBases = false
is_done replies.Duplicate = false
is_done replies.Cycle = false
is_done (replies.NoOrder c) = false
is_done replies.Immutable = false
is_done replies.NotSubclass = false
is_done replies.Full = false

-- the operation is a write at this world
abbrev pub is_write : World → op.Op → Bool
is_write w operation = is_done (step w operation).reply
