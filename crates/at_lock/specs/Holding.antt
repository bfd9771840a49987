-- What a pass has of a lock that it holds.
use Rattle.std.specs.Prelude.{◌≡◌, true, Some, None}
use Rattle.at_model.specs.History.{replay}
use Rattle.at_view.specs.declared.view.View.{View}
use Rattle.at_core.specs.declared.lock.Lock as lock
use Rattle.at_core.specs.declared.stored.Stored.{Stored}
use Rattle.at_core.specs.declared.world.Pass.{Pass}
use Rattle.at_core.specs.Locks.{holds}
use Rattle.at_core.specs.Opened.{opening_of}
use Rattle.at_core.specs.Passes.{view, slot_at}
use Rattle.at_core.specs.Rule.{Agrees, shape_under}
use Rattle.at_core.specs.Steps.{copied_heads, ValueAgrees}

-- the value is right for what the lock kept, and for the lists that the view has of the types
abbrev pub IsRight : View → lock.Lock → Stored → Type 0
IsRight v l x = ValueAgrees (opening_of v.who.limits) l v v.types.lists x

-- the value is right for all that the view has seen
abbrev pub IsRightNow : View → lock.Lock → Stored → Type 0
IsRightNow v l x = Agrees v.who.limits (replay (opening_of v.who.limits) v.history.seen) v.types.lists (shape_under (copied_heads v) l) l x

-- The pass holds the lock, and its slot has a value that is right.
pub record HasValue (p : Pass) (l : lock.Lock) : Type 0 where
  pub held : holds l (view p) ≡ true
  pub value : Stored
  pub within : slot_at p l ≡ Some (Some value)
  pub right : IsRight (view p) l value

-- It holds the lock, and has the value out of the slot.
pub record HasOut (p : Pass) (l : lock.Lock) : Type 0 where
  pub held : holds l (view p) ≡ true
  pub out : slot_at p l ≡ Some None
