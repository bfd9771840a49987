-- Steps on the count of writes: a place is loaded, an operation is intended, and a write takes the next place.
use Rattle.std.specs.Prelude.{ℕ, suc, ◌≡◌, ◌<◌, ◌==◌, ◌||◌, nat_lt, true, false, IsTrue, List, [], ◌∷◌, ◌++◌, length, map, Some, None, slice_index, if◌then◌else◌, Contains}
use Rattle.at_value.specs.declared.operation.Op as op
use Rattle.at_value.specs.Packing.{HasWords}
use Rattle.at_model.specs.World.{World}
use Rattle.at_model.specs.History.{replay}
use Rattle.at_model.specs.Step.{is_write}
use Rattle.at_line.specs.Kept.{rows_of}
use Rattle.at_view.specs.declared.mark.StepKind as step_kind
use Rattle.at_view.specs.declared.mark.StepKind.TheVariants as kinds
use Rattle.at_view.specs.declared.view.RowHold.{RowHold}
use Rattle.at_view.specs.declared.view.View.{View}
use Rattle.at_view.specs.Counts.{intent_words}
use Rattle.at_view.specs.Words.{place, intent}
use Rattle.at_core.specs.declared.lock.Lock.TheVariants as locks
use Rattle.at_core.specs.Heads.{IsOpened, IsInline}
use Rattle.at_core.specs.Locks.{holds}
use Rattle.at_core.specs.Rule.{listed}
use Rattle.at_core.specs.Steps.{mark, marked, copied_heads}
use Rattle.at_core.specs.Writes.{needs_types, moved_by}

-- Loading the place

-- The pass has seen the history up to now. A place below the limit counts until its next write.
abbrev pub place_loaded : View → List op.Op → View
place_loaded v at = marked (record v {
  history = record v.history { seen = at };
  intent = record v.intent { fresh = v.intent.fresh || nat_lt (length at) v.who.limits.place_max };
}) (mark kinds.PlaceLoad place (Some (length at)) (Some (length at)))

-- Intending

-- the four words, in which one says this
abbrev pub with_word : List ℕ → ℕ → ℕ → List ℕ
with_word words j word = listed intent_words (λ i. if i == j then word else slice_index words i)

-- a word of the intended operation is stored
abbrev pub intent_stored : View → ℕ → ℕ → View
intent_stored v j word = marked (record v { intent = record v.intent { words = with_word v.intent.words j word } })
    (mark kinds.IntentStore (intent v.who.number j) None (Some word))

-- the words are those of the operation
abbrev pub Intends : View → op.Op → Type 0
Intends v operation = HasWords operation v.intent.words

-- Writing

-- The rows of a write are held, and their values don't stand in inline words that are whole; the head of each object that it
-- moves, one that it makes among them, is open.
pub record Covers (w : World) (v : View) (operation : op.Op) : Type 0 where
  pub rows : (o : ℕ) → Contains (rows_of w operation) o → (holds (locks.Row o) v ≡ true) × ¬ IsInline (copied_heads v o)
  pub moved : (o : ℕ) → Contains (moved_by w operation) o → (holds (locks.Row o) v ≡ true) × IsOpened (copied_heads v o)

-- What both commits ask: the intended operation is a write at what the pass has seen and covers what it changes, and a place
-- below the limit was loaded since the last write.
pub record MayWrite (opened : World) (v : View) (operation : op.Op) : Type 0 where
  pub intends : Intends v operation
  pub fresh : v.intent.fresh ≡ true
  pub write : IsTrue (is_write (replay opened v.history.seen) operation)
  pub covers : Covers (replay opened v.history.seen) v operation

-- a commit at whatever place comes next asks for the lock of the types
pub record MayCommit (opened : World) (v : View) (operation : op.Op) : Type 0 where
  pub write : MayWrite opened v operation
  pub types : holds locks.Types v ≡ true

-- a commit at the place that the pass has seen, and at no other, is of a write that needs no lock of the types, and that place is
-- below the limit
pub record MayCommitIf (opened : World) (v : View) (operation : op.Op) : Type 0 where
  pub write : MayWrite opened v operation
  pub alone : needs_types operation ≡ false
  pub below : length v.history.seen < v.who.limits.place_max

-- what a lock keeps counts from this history on
abbrev pub stamped : List op.Op → RowHold → RowHold
stamped history row = record row { hold = record row.hold { since = history } }

-- The write comes after this history, at the next place, which is the pass's own; what its locks keep counts from there.
abbrev pub written : step_kind.StepKind → View → List op.Op → op.Op → View
written kind v at operation = marked (record v {
  history = record v.history { seen = at ++ operation ∷ []; own = v.history.own ++ suc (length at) ∷ [] };
  intent = record v.intent { fresh = false };
  types = record v.types { hold = record v.types.hold { since = at ++ operation ∷ [] } };
  holds = map (stamped (at ++ operation ∷ [])) v.holds;
}) (mark kind place (Some (length at)) (Some (suc (length at))))

-- another place was found, and nothing written
abbrev pub unwritten : View → ℕ → View
unwritten v found = marked v (mark kinds.CommitIf place (Some found) (Some found))
