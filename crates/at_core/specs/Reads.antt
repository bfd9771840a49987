-- What each part of the rule reads of a view, and no more: a part is said over these records, so that a step which leaves
-- them leaves the part.
use Rattle.std.specs.Prelude.{ℕ, ◌==◌, Bool, List, [], ◌∷◌, map, Option, Some, None, if◌then◌else◌}
use Rattle.at_value.specs.declared.limits.Limits.{Limits}
use Rattle.at_value.specs.declared.operation.Op as op
use Rattle.at_view.specs.declared.mark.Trail.{Trail}
use Rattle.at_view.specs.declared.view.ClassKeys.{ClassKeys}
use Rattle.at_view.specs.declared.view.HeadLook.{HeadLook}
use Rattle.at_view.specs.declared.view.Hold.{Hold}
use Rattle.at_view.specs.declared.view.JoinView.{JoinView}
use Rattle.at_view.specs.declared.view.TypeLists.{TypeLists}
use Rattle.at_view.specs.declared.view.TypesWords.{TypesWords}
use Rattle.at_view.specs.declared.view.RowWords.{RowWords}
use Rattle.at_view.specs.declared.view.View.{View}
use Rattle.at_core.specs.declared.lock.Lock as lock
use Rattle.at_core.specs.declared.lock.Lock.TheVariants as locks
use Rattle.at_core.specs.Locks.{hold_of, holds, copy_at}

-- of the history
pub record PastRead : Type 0 where
  pub seen : List op.Op
  pub own : List ℕ

abbrev pub past_read : View → PastRead
past_read v = record { seen = v.history.seen; own = v.history.own }

-- of places below the limit
abbrev pub fresh_read : View → Bool
fresh_read v = v.intent.fresh

-- the births of the passes that were taken in
abbrev pub births_of : List Trail → List ℕ
births_of trails = map (λ trail. trail.birth) trails

-- of births
pub record KinRead : Type 0 where
  pub live : Bool
  pub birth : ℕ
  pub children : List ℕ
  pub kept : List ℕ

abbrev pub kin_read : View → KinRead
kin_read v = record { live = v.who.live; birth = v.history.birth; children = v.who.children; kept = births_of v.kept }

-- of numbers
pub record NumberRead : Type 0 where
  pub live : Bool
  pub number : ℕ

abbrev pub number_read : View → NumberRead
number_read v = record { live = v.who.live; number = v.who.number }

-- of who has a lock
pub record HolderRead : Type 0 where
  pub number : ℕ
  pub held : Bool

abbrev pub holder_read : lock.Lock → View → HolderRead
holder_read l v = record { number = v.who.number; held = holds l v }

-- of what a lock keeps
pub record KeptRead : Type 0 where
  pub hold : Hold
  pub seen : List op.Op
  pub own : List ℕ

abbrev pub kept_read : lock.Lock → View → KeptRead
kept_read l v = record { hold = hold_of l v; seen = v.history.seen; own = v.history.own }

-- of the lists that the holder of the lock of the types has, and of its copies
pub record TypesRead : Type 0 where
  pub held : Bool
  pub lists : TypeLists
  pub words : TypesWords

abbrev pub types_read : View → TypesRead
types_read v = record { held = v.types.hold.held; lists = v.types.lists; words = v.types.words }

-- of the copies that the holder of a row has
pub record RowRead : Type 0 where
  pub held : Bool
  pub words : RowWords

abbrev pub row_read : ℕ → View → RowRead
row_read o v = record { held = (hold_of (locks.Row o) v).held; words = copy_at o v.rows }

-- of a row whose head may be open: whether the view has it, and the types
pub record OpenRead : Type 0 where
  pub row : Bool
  pub types : Bool

abbrev pub open_read : ℕ → View → OpenRead
open_read o v = record { row = holds (locks.Row o) v; types = holds locks.Types v }

-- of keys, and of heads that were loaded
abbrev pub known_read : View → List ClassKeys
known_read v = v.known

abbrev pub looks_read : View → List HeadLook
looks_read v = v.looks

-- of sequences: who it is, whether it is online, and what it loaded of the global one
pub record SequenceRead : Type 0 where
  pub live : Bool
  pub number : ℕ
  pub online : Bool
  pub global : ℕ

abbrev pub sequence_read : View → SequenceRead
sequence_read v = record { live = v.who.live; number = v.who.number; online = v.tags.online; global = v.tags.global }

-- of joins
abbrev pub join_read : View → JoinView
join_read v = v.joined

-- of the limits
pub record LimitRead : Type 0 where
  pub live : Bool
  pub limits : Limits

abbrev pub limit_read : View → LimitRead
limit_read v = record { live = v.who.live; limits = v.who.limits }

-- the number of a slot in hand
abbrev pub slot_number : {A : Type 0} → ℕ × A → ℕ
slot_number slot = slot.0

-- what a hand has under the number of a slot
abbrev pub in_hand : {A : Type 0} → ℕ → List (ℕ × A) → Option A
in_hand k [] = None
in_hand k (slot ∷ slots) = if k == slot.0 then Some slot.1 else in_hand k slots
