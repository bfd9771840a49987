-- The state of the plain data model: a world, and how many writes led to it.
use Rattle.std.specs.Prelude.{ℕ, Bool, true, false, ◌≡◌, ◌+◌, ◌-◌, ◌^◌, ◌≤◌, min, length, map, List, [], ◌∷◌, Option, Some, None, is_some, if◌then◌else◌, slice_index_or, slice_get}
use Rattle.smallvec.specs.SmallVec.{SmallVec}
use Rattle.at_value.specs.declared.operation.Op as op
use Rattle.at_value.specs.declared.operation.Op.TheVariants as ops
use Rattle.at_value.specs.declared.reply.Reply as reply
use Rattle.at_value.specs.declared.reply.Reply.TheVariants as replies
use Rattle.at_value.specs.declared.value.Value as value
use Rattle.at_value.specs.Widths as widths
use Rattle.at_model.specs.declared.rows.ClassRow.{ClassRow}
use Rattle.at_value.specs.Pairs.{value_at, with_value, without}
use Rattle.at_model.specs.World.{World, Map, row_of, own_of, all_orders, merged_order}
use Rattle.at_model.specs.StoredOrders.{AreOrders}
use Rattle.at_model.specs.Attributes.{Outcome, dict_of, del_own}
use Rattle.at_model.specs.Step.{step, is_done, with_names}
use Rattle.at_model.specs.declared.rows.Object.{Object}

pub record PlainState : Type 0 where
  pub world : World
  pub place : ℕ

-- one write more; the count stands still at 2^64 - 1
abbrev pub place_after_write : ℕ → ℕ
place_after_write place = min (place + 1) (2 ^ 64 - 1)

abbrev pub moved : ℕ → Outcome → PlainState
moved place outcome = record { world = outcome.world; place = if is_done outcome.reply then place_after_write place else place }

-- the state after an operation: the world after its step, and one place more where it is a write
abbrev pub stepped : PlainState → op.Op → PlainState
stepped s operation = moved s.place (step s.world operation)

-- the reply and the state are those of the outcome, which counts no place
abbrev pub IsOutcome : Outcome → PlainState → PlainState → reply.Reply → Type 0
IsOutcome outcome old new said = (said ≡ outcome.reply) × (new ≡ record { world = outcome.world; place = old.place })

-- the reply and the state are those after an operation
abbrev pub IsStepped : op.Op → PlainState → PlainState → reply.Reply → Type 0
IsStepped operation old new said = (said ≡ (step old.world operation).reply) × (new ≡ stepped old operation)

-- whether an operation may take memory: to make a class or an object, to set a value or bases, or to reply an order
abbrev pub takes_memory : op.Op → Bool
takes_memory (ops.NewClass c bases) = true
takes_memory (ops.TypeSet c n v) = true
takes_memory (ops.TypeDel c n) = false
takes_memory (ops.SetBases c bases) = true
takes_memory (ops.New c) = true
takes_memory (ops.Set o n v) = true
takes_memory (ops.Del o n) = false
takes_memory (ops.SetClass o c) = false
takes_memory (ops.Share o p) = false
takes_memory (ops.Get o n) = false
takes_memory (ops.TypeGet c n) = false
takes_memory (ops.Super k o n) = false
takes_memory (ops.Special o n) = false
takes_memory (ops.ClassOf o) = false
takes_memory (ops.Mro c) = true

-- whether the object, where there is one, has the name in its dictionary
abbrev pub is_in_dict : World → ℕ → Option Object → Bool
is_in_dict w n None = false
is_in_dict w n (Some object) = is_some (value_at n (dict_of w object))

-- whether an operation sets a value under a name that is there already, in the class or in the dictionary of the object
abbrev pub sets_known_name : World → op.Op → Bool
sets_known_name w (ops.NewClass c bases) = false
sets_known_name w (ops.TypeSet c n v) = is_some (value_at n (own_of (row_of w.classes c)))
sets_known_name w (ops.TypeDel c n) = false
sets_known_name w (ops.SetBases c bases) = false
sets_known_name w (ops.New c) = false
sets_known_name w (ops.Set o n v) = is_in_dict w n (slice_get w.objects o)
sets_known_name w (ops.Del o n) = false
sets_known_name w (ops.SetClass o c) = false
sets_known_name w (ops.Share o p) = false
sets_known_name w (ops.Get o n) = false
sets_known_name w (ops.TypeGet c n) = false
sets_known_name w (ops.Super k o n) = false
sets_known_name w (ops.Special o n) = false
sets_known_name w (ops.ClassOf o) = false
sets_known_name w (ops.Mro c) = false

-- whether memory may be taken before this reply is found: only for what was done or made, for an order, and for `NoOrder`,
-- which is found by a merge
abbrev pub wants_memory : reply.Reply → Bool
wants_memory replies.Done = true
wants_memory (replies.Made o value) = true
wants_memory (replies.Order order) = true
wants_memory (replies.NoOrder c) = true
wants_memory (replies.Value v) = false
wants_memory (replies.Method f v) = false
wants_memory (replies.Hook kind callee receiver other v) = false
wants_memory replies.NoAttr = false
wants_memory replies.NoGetter = false
wants_memory replies.NoSetter = false
wants_memory replies.NoDeleter = false
wants_memory replies.NoClass = false
wants_memory replies.NameTaken = false
wants_memory replies.EmptyBases = false
wants_memory replies.Duplicate = false
wants_memory replies.Cycle = false
wants_memory replies.Immutable = false
wants_memory replies.NotSubclass = false
wants_memory replies.Full = false

-- an object's dictionary without the name, where it was there
abbrev pub own_deleted : World → Object → ℕ → Outcome
own_deleted w object n = del_own w object n (value_at n (dict_of w object))

-- the classes once class c has a value under the name, and once it hasn't the name
abbrev pub with_name : List (Option ClassRow) → ℕ → ℕ → value.Value → List (Option ClassRow)
with_name classes c n v = with_names classes c (row_of classes c) (with_value n v (own_of (row_of classes c)))

abbrev pub without_name : List (Option ClassRow) → ℕ → ℕ → List (Option ClassRow)
without_name classes c n = with_names classes c (row_of classes c) (without n (own_of (row_of classes c)))

abbrev pub lists_of : List (SmallVec ℕ) → List (List ℕ)
lists_of orders = map (λ l. l.items) orders

-- what is true of classes, their orders, objects and dictionaries
pub record IsCoherent (classes : List (Option ClassRow)) (orders : List (List ℕ)) (objects : List Object) (dicts : List Map)
    : Type 0 where
  pub numbered : length classes ≡ widths.classes
  pub ordered : length orders ≡ widths.classes
  pub orders_are : AreOrders classes orders
  pub few : length objects ≤ widths.objects
  pub named : length dicts ≡ length objects

-- the lists of these classes
abbrev pub orders_at : List (List ℕ) → List ℕ → List (List ℕ)
orders_at orders classes = map (λ c. slice_index_or orders c []) classes

-- the order that a list stands for: none where it is empty, since an order has its own class
abbrev pub order_or_none : List ℕ → Option (List ℕ)
order_or_none [] = None
order_or_none (c ∷ cs) = Some (c ∷ cs)

-- the order of a class with these bases, by the lists of the classes
abbrev pub order_by : List (List ℕ) → ℕ → List ℕ → Option (List ℕ)
order_by orders c bases = merged_order c bases (all_orders (map (λ b. order_or_none (slice_index_or orders b [])) bases))
