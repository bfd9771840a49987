-- What a pass knows while it closes its world. It is the only one, so all that it has seen is all that was written, and what it
-- reads under locks is what there is at the end.
use Rattle.std.specs.Prelude.{ℕ, ◌≡◌, ◌≢◌, true, false, [], Some, None, slice_get, slice_index_or}
use Rattle.at_value.specs.declared.limits.Limits.{Limits}
use Rattle.at_dict.specs.Dictionary.{Dictionary}
use Rattle.at_model.specs.declared.last.ObjEnd.{ObjEnd}
use Rattle.at_model.specs.declared.rows.Object.{Object}
use Rattle.at_model.specs.Final.{object_end}
use Rattle.at_model.specs.History.{replay}
use Rattle.at_model.specs.World as model
use Rattle.at_types.specs.Types.{TypesState}
use Rattle.at_view.specs.declared.view.View.{View}
use Rattle.at_core.specs.declared.lock.Lock as lock
use Rattle.at_core.specs.declared.lock.Lock.TheVariants as locks
use Rattle.at_core.specs.declared.stored.Stored.TheVariants as stored
use Rattle.at_core.specs.declared.world.Pass.{Pass}
use Rattle.at_core.specs.Heads.{shape_of, IsWhole}
use Rattle.at_core.specs.HeadSteps.{known_keys, copied_values}
use Rattle.at_core.specs.Inline.{IsHeadOf}
use Rattle.at_core.specs.Locks.{hold_of, holds, copy_at, HoldsNone}
use Rattle.at_core.specs.Opened.{opening_of}
use Rattle.at_core.specs.Passes.{view, hand, slot_at, IsSame, HasSameHand, IsElsewhereSame}
use Rattle.at_core.specs.Rule.{BodyAgrees, TypesAgree}
use Rattle.at_core.specs.Steps.{copied_heads, HoldsTypesAlone}

-- the world after all that the pass has seen
abbrev pub now_of : Limits → View → model.World
now_of limits v = replay (opening_of limits) v.history.seen

-- The pass has seen and written nothing more, and all else that isn't of locks and loads is as it was.
pub record IsStill (v w : View) : Type 0 where
  pub who : w.who ≡ v.who
  pub history : w.history ≡ v.history
  pub joined : w.joined ≡ v.joined
  pub intent : w.intent ≡ v.intent
  pub tags : w.tags ≡ v.tags
  pub read : w.read ≡ v.read
  pub write : w.write ≡ v.write
  pub kept : w.kept ≡ v.kept

-- The same pass is handed back: it holds no lock, has nothing in hand, and has seen and written nothing more.
pub record IsBack (p q : Pass) : Type 0 where
  pub same : IsSame p q
  pub still : IsStill (view p) (view q)
  pub lockless : HoldsNone (view q)
  pub empty : hand q ≡ []

-- The pass has loaded words: its locks with their slots, and its copies, are as they were.
pub record HasLoaded (p q : Pass) : Type 0 where
  pub same : IsSame p q
  pub slots : HasSameHand p q
  pub still : IsStill (view p) (view q)
  pub types : (view q).types ≡ (view p).types
  pub holds : (view q).holds ≡ (view p).holds
  pub rows : (view q).rows ≡ (view p).rows

-- The pass has taken the lock of a row, or given it back: all other locks with their slots and copies are as they were.
pub record IsBeside (p q : Pass) (o : ℕ) : Type 0 where
  pub same : IsSame p q
  pub still : IsStill (view p) (view q)
  pub types : (view q).types ≡ (view p).types
  pub others : (l : lock.Lock) → l ≢ locks.Row o → hold_of l (view q) ≡ hold_of l (view p)
  pub copies : (r : ℕ) → r ≢ o → copy_at r (view q).rows ≡ copy_at r (view p).rows
  pub slots : IsElsewhereSame p q (locks.Row o)

-- The pass has read a row, and given back each lock that it took for that.
pub record HasRead (p q : Pass) : Type 0 where
  pub same : IsSame p q
  pub still : IsStill (view p) (view q)
  pub types : (view q).types ≡ (view p).types
  pub held : (l : lock.Lock) → holds l (view q) ≡ holds l (view p)
  pub slot : slot_at q locks.Types ≡ slot_at p locks.Types

-- The pass has the lock of the types and no other, and has the types out of their slot, which are those of the world.
pub record HasTypes (w : model.World) (p : Pass) (t : TypesState) : Type 0 where
  pub only : HoldsTypesAlone (view p)
  pub since : (view p).types.hold.since ≡ (view p).history.seen
  pub out : slot_at p locks.Types ≡ Some None
  pub agrees : TypesAgree (view p).who.limits.tags w (view p).types.lists t

-- The pass has the lock of a row: the head of the row's object is whole, and the dictionary in the slot is that of the world.
pub record HasRow (w : model.World) (p : Pass) (o : ℕ) : Type 0 where
  pub held : holds (locks.Row o) (view p) ≡ true
  pub since : (hold_of (locks.Row o) (view p)).since ≡ (view p).history.seen
  pub whole : IsWhole (copied_heads (view p) o)
  pub body : Dictionary
  pub slot : slot_at p (locks.Row o) ≡ Some (Some (stored.Body body))
  pub agrees : BodyAgrees (shape_of (copied_heads (view p) o)) w o body

-- what the head says of the object in the world, with the keys that the pass knows and the inline values that it has copied
abbrev pub HeadSays : model.World → View → ℕ → Type 0
HeadSays w v o = IsHeadOf w o (copied_heads v o) (known_keys v) (copied_values v o)

-- The pass holds the lock of the types and that of one row.
pub record HoldsOneRow (v : View) (o : ℕ) : Type 0 where
  pub types : holds locks.Types v ≡ true
  pub rows : (r : ℕ) → r ≢ o → holds (locks.Row r) v ≡ false

-- the dictionary with this number
abbrev pub dictionary_of : model.World → ℕ → model.Map
dictionary_of w r = slice_index_or w.dicts r []

-- it is the end of the object with this number
abbrev pub IsEndOf : model.World → ℕ → ObjEnd → Type 0
IsEndOf w o end = (found : Object) → slice_get w.objects o ≡ Some found → end ≡ object_end w found
