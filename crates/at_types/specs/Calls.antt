-- Lists of calls on a `Types`, with what each answered, beside histories of the data model.
use Rattle.std.specs.Prelude.{ℕ, ◌≡◌, ◌≢◌, ◌+◌, ◌<◌, ◌^◌, Bool, true, false, List, [], ◌∷◌, ◌++◌, length, Option, Some, None, IsTrue, is_some, slice_get}
use Rattle.at_value.specs.Numbers.{object, init}
use Rattle.at_value.specs.Widths as widths
use Rattle.at_value.specs.declared.operation.Op as op
use Rattle.at_value.specs.declared.operation.Op.TheVariants as ops
use Rattle.at_value.specs.declared.reply.Reply as reply
use Rattle.at_value.specs.declared.reply.Reply.TheVariants as replies
use Rattle.at_model.specs.World.{World, row_of, find_in, opening}
use Rattle.at_model.specs.Step.{step}
use Rattle.at_model.specs.History.{replay}
use Rattle.at_types.specs.declared.tags.KeptBy as kept_by
use Rattle.at_types.specs.Laws.{LookUpsStand}
use Rattle.at_types.specs.Tags.{IsOut, next_given, in_limbo, with_goal, with_kept, with_freed}
use Rattle.at_types.specs.Types.{TypesState, StandsFor, IsTypes, IsReplyTo, IsStepped, opened, is_class_write, with_object, with_number, with_tags}

-- What may be done: a call on the state, or an operation elsewhere.
pub data Call : Type 0 where
  -- `define`, `put`, `cut` or `rebase`: the operation and the reply
  changed : op.Op → reply.Reply → Call
  -- one of these, out of memory
  failed : op.Op → Call
  -- `add_object`, where an object of this class is made: the class and the object
  added : ℕ → ℕ → Call
  -- an operation on objects, which isn't told to the state, or one that reads
  elsewhere : op.Op → Call
  -- `take_number` with its answer, and `free_number`
  taken : Option ℕ → Call
  returned : ℕ → Call
  -- `next_tag` with its answer, `to_limbo`, `set_goal`, `set_kept` and `free_at`
  given : Option ℕ → Call
  dropped : ℕ → Call
  goal_set : ℕ → ℕ → Call
  kept_set : ℕ → kept_by.KeptBy → Call
  freed : ℕ → Call

-- an operation that changes no class and makes no object
abbrev pub is_elsewhere : op.Op → Bool
is_elsewhere (ops.NewClass c bases) = false
is_elsewhere (ops.TypeSet c n v) = false
is_elsewhere (ops.TypeDel c n) = false
is_elsewhere (ops.SetBases c bases) = false
is_elsewhere (ops.New c) = false
is_elsewhere (ops.Set o n v) = true
is_elsewhere (ops.Del o n) = true
is_elsewhere (ops.SetClass o c) = true
is_elsewhere (ops.Share o p) = true
is_elsewhere (ops.Get o n) = true
is_elsewhere (ops.TypeGet c n) = true
is_elsewhere (ops.Super k o n) = true
is_elsewhere (ops.Special o n) = true
is_elsewhere (ops.ClassOf o) = true
is_elsewhere (ops.Mro c) = true

-- an object of the class can be made
pub record CanMake (t : TypesState) (c : ℕ) : Type 0 where
  pub made : is_some (row_of t.classes c) ≡ true
  pub other : c ≢ object
  pub room : t.objects < widths.objects

abbrev pub IsTaken : Option ℕ → TypesState → TypesState → Type 0
IsTaken None old new = new ≡ old
IsTaken (Some q) old new = (q < widths.passes) × (new ≡ with_number old q false)

abbrev pub IsGiven : Option ℕ → TypesState → TypesState → Type 0
IsGiven None old new = new ≡ old
IsGiven (Some tag) old new = new ≡ with_tags old (next_given old.tags)

-- what the call leaves, and what it answered
abbrev pub IsCall : Call → TypesState → TypesState → Type 0
IsCall (changed operation reply) old new = IsTrue (is_class_write operation) × IsStepped operation old new reply
IsCall (failed operation) old new = new ≡ old
IsCall (added c o) old new = CanMake old c × (o ≡ old.objects) × (new ≡ with_object old)
IsCall (elsewhere operation) old new = IsTrue (is_elsewhere operation) × (new ≡ old)
IsCall (taken q) old new = IsTaken q old new
IsCall (returned q) old new = (q < widths.passes) × (new ≡ with_number old q true)
IsCall (given tag) old new = (tag ≡ slice_get old.tags.free 0) × IsGiven tag old new
IsCall (dropped tag) old new = IsOut old.tags tag × (new ≡ with_tags old (in_limbo old.tags tag))
IsCall (goal_set i goal) old new = (i < length old.tags.limbo) × (new ≡ with_tags old (with_goal old.tags i goal))
IsCall (kept_set i kept) old new = (i < length old.tags.limbo) × (new ≡ with_tags old (with_kept old.tags i kept))
IsCall (freed i) old new = (i < length old.tags.limbo) × (new ≡ with_tags old (with_freed old.tags i))

-- these calls, one after another, lead from the one state to the other
abbrev pub IsRun : List Call → TypesState → TypesState → Type 0
IsRun [] old new = new ≡ old
IsRun (call ∷ calls) old new = (next : TypesState) × IsCall call old next × IsRun calls next new

-- the operations that a call does
abbrev pub operations_of : Call → List op.Op
operations_of (changed operation reply) = operation ∷ []
operations_of (failed operation) = []
operations_of (added c o) = ops.New c ∷ []
operations_of (elsewhere operation) = operation ∷ []
operations_of (taken q) = []
operations_of (returned q) = []
operations_of (given tag) = []
operations_of (dropped tag) = []
operations_of (goal_set i goal) = []
operations_of (kept_set i kept) = []
operations_of (freed i) = []

abbrev pub operations : List Call → List op.Op
operations [] = []
operations (call ∷ calls) = operations_of call ++ operations calls

-- what the call answered is what the data model replies in the world
abbrev pub IsAnswer : World → Call → Type 0
IsAnswer w (changed operation reply) = reply ≡ (step w operation).reply
IsAnswer w (added c o) = replies.Made o (find_in w c init) ≡ (step w (ops.New c)).reply
IsAnswer w (failed operation) = Unit {0}
IsAnswer w (elsewhere operation) = Unit {0}
IsAnswer w (taken q) = Unit {0}
IsAnswer w (returned q) = Unit {0}
IsAnswer w (given tag) = Unit {0}
IsAnswer w (dropped tag) = Unit {0}
IsAnswer w (goal_set i goal) = Unit {0}
IsAnswer w (kept_set i kept) = Unit {0}
IsAnswer w (freed i) = Unit {0}

-- each call's, in the world after the operations of those before it
abbrev pub AreAnswers : World → List Call → Type 0
AreAnswers w [] = Unit {0}
AreAnswers w (call ∷ calls) = IsAnswer w call × AreAnswers (replay w (operations_of call)) calls

-- the world after the operations of these calls, from the opening world on
abbrev pub world_after : List Call → World
world_after calls = replay opening (operations calls)

-- After the calls the state stands for the world after their operations. Replies, orders and what is found are those of
-- the data model, and what is true of every `Types` is true.
pub record RunStands (calls : List Call) (t : TypesState) : Type 0 where
  pub stands : StandsFor t (world_after calls)
  pub answers : AreAnswers opening calls
  pub would :
      (operation : op.Op) (reply : reply.Reply) → IsReplyTo operation t reply
      → reply ≡ (step (world_after calls) operation).reply
  pub look_ups : LookUpsStand t (world_after calls)
  pub invariant : IsTypes t

abbrev pub EveryRunStands : Type 0
EveryRunStands =
    (tags : ℕ) (calls : List Call) (t : TypesState) → tags < 2 ^ 16 → IsRun calls (opened tags) t → RunStands calls t
