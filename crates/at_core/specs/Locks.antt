-- The locks of the table: what a view knows of each, and what each protects.
use Rattle.std.specs.Prelude.{ℕ, suc, ◌≡◌, ◌==◌, ◌≤◌, Bool, true, false, List, [], ◌∷◌, ◌++◌, length, slice_get, if◌then◌else◌, Contains}
use mathlib.Core.List.{IsPrefix}
use Rattle.at_value.specs.declared.operation.Op as op
use Rattle.at_model.specs.World.{World}
use Rattle.at_model.specs.History.{replay}
use Rattle.at_line.specs.Kept.{rows_of}
use Rattle.at_view.specs.declared.view.Hold.{Hold}
use Rattle.at_view.specs.declared.view.RowHold.{RowHold}
use Rattle.at_view.specs.declared.view.RowCopy.{RowCopy}
use Rattle.at_view.specs.declared.view.RowWords.{RowWords}
use Rattle.at_view.specs.Views.{no_hold, no_row_words}
use Rattle.at_view.specs.declared.view.View.{View}
use Rattle.at_view.specs.Words.{Word, type_lock, row_lock}
use Rattle.at_core.specs.declared.lock.Lock as lock
use Rattle.at_core.specs.declared.lock.Lock.TheVariants as locks

-- the word of a lock, 0 while it is free, else the number of the pass that has it and 1
abbrev pub lock_word : lock.Lock → Word
lock_word locks.Types = type_lock
lock_word (locks.Row o) = row_lock o

-- the slot that leaves the table with a lock: 0 with the lock of the types, and then one for each row
abbrev pub slot_of : lock.Lock → ℕ
slot_of locks.Types = 0
slot_of (locks.Row o) = suc o

-- What a view knows of a lock

-- of the row of an object: the first entry counts
abbrev pub hold_at : ℕ → List RowHold → Hold
hold_at o [] = no_hold
hold_at o (row ∷ rows) = if o == row.object then row.hold else hold_at o rows

abbrev pub hold_of : lock.Lock → View → Hold
hold_of locks.Types v = v.types.hold
hold_of (locks.Row o) v = hold_at o v.holds

abbrev pub holds : lock.Lock → View → Bool
holds l v = (hold_of l v).held

abbrev pub HoldsNone : View → Type 0
HoldsNone v = (l : lock.Lock) → holds l v ≡ false

-- the copies of the words of an object's row: the first entry counts
abbrev pub copy_at : ℕ → List RowCopy → RowWords
copy_at o [] = no_row_words
copy_at o (row ∷ rows) = if o == row.object then row.words else copy_at o rows

-- What a lock protects

-- Under the lock of the types no class changes, and each object keeps its class and the dictionary that it names; under the
-- lock of a row the object keeps its class and the dictionary that it names, and the dictionary born with it its values.
abbrev pub IsUnchanged : lock.Lock → World → World → Type 0
IsUnchanged locks.Types before now = (now.classes ≡ before.classes) × (now.objects ≡ before.objects)
IsUnchanged (locks.Row o) before now = (slice_get now.objects o ≡ slice_get before.objects o) × (slice_get now.dicts o ≡ slice_get before.dicts o)

-- what it protects is the same at each point of the history from the prefix on
abbrev pub Protects : World → lock.Lock → List op.Op → List op.Op → Type 0
Protects opened l prefix history =
    (point : List op.Op) → IsPrefix prefix point → IsPrefix point history → IsUnchanged l (replay opened prefix) (replay opened point)

-- No write after so many, but those at the own places, has the object among its rows.
abbrev pub AvoidsRow : World → ℕ → List ℕ → List op.Op → ℕ → Type 0
AvoidsRow opened entered own history o =
    (point : List op.Op) (operation : op.Op) → IsPrefix (point ++ operation ∷ []) history → entered ≤ length point → ¬ Contains own (suc (length point))
    → ¬ Contains (rows_of (replay opened point) operation) o

-- so it is with the object of a row that is held; the lock of the types says nothing of writes to objects
abbrev pub Excludes : World → lock.Lock → ℕ → List ℕ → List op.Op → Type 0
Excludes opened locks.Types entered own history = Unit {0}
Excludes opened (locks.Row o) entered own history = AvoidsRow opened entered own history o

-- What a lock that is held has kept up to a point of the history: what it protects is as it was when the pass took the lock, or
-- as its own last write left it; and no other pass has written the object of a row.
pub record IsKeptAt (opened : World) (l : lock.Lock) (v : View) (history : List op.Op) : Type 0 where
  pub begun : IsPrefix (hold_of l v).since history
  pub came : (hold_of l v).entered ≤ length (hold_of l v).since
  pub unchanged : IsUnchanged l (replay opened (hold_of l v).since) (replay opened history)
  pub excludes : Excludes opened l (hold_of l v).entered v.history.own history

-- up to all that the pass has seen
abbrev pub IsKept : World → lock.Lock → View → Type 0
IsKept opened l v = IsKeptAt opened l v v.history.seen

-- so it is with each lock that is held
abbrev pub AreKeptAt : World → View → List op.Op → Type 0
AreKeptAt opened v history = (l : lock.Lock) → holds l v ≡ true → IsKeptAt opened l v history

abbrev pub AreKept : World → View → Type 0
AreKept opened v = AreKeptAt opened v v.history.seen
