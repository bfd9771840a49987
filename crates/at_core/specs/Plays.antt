-- What each step tells the pass that makes it.
use Rattle.std.specs.Prelude.{ℕ, suc, true, ◌≡◌, ◌≢◌, ◌<◌, ◌≤◌, [], ◌∷◌, ◌++◌, length, Some}
use mathlib.Core.List.{IsPrefix}
use Rattle.atomic_table.specs.Table.{Me, Step, rest}
use Rattle.at_model.specs.World.{World}
use Rattle.at_model.specs.History.{replay, IsProper}
use Rattle.at_types.specs.Tags.{times}
use Rattle.at_view.specs.declared.view.View.{View}
use Rattle.at_view.specs.Counts.{passes}
use Rattle.at_view.specs.Words.{number_of, global_sequence, own_sequence}
use Rattle.at_core.specs.declared.lock.Lock as lock
use Rattle.at_core.specs.declared.stored.Stored.{Stored}
use Rattle.at_core.specs.declared.lock.Lock.TheVariants as locks
use Rattle.at_core.specs.Heads.{shape_of, HasDictionary, IsWhole}
use Rattle.at_core.specs.HeadSteps.{known_keys, copied_values, NamesRow}
use Rattle.at_core.specs.Inline.{IsHeadOf}
use Rattle.at_core.specs.Locks.{lock_word, slot_of, hold_of, holds, AreKept}
use Rattle.at_core.specs.Reads.{births_of}
use Rattle.at_core.specs.Rule.{Slot, IsLock}
use Rattle.at_core.specs.Steps.{Moment, taken, missed, given, global_loaded, gone_online, gone_offline, copied_heads, ValueAgrees}

-- the first pass, without a child: the only live one
pub record IsAlone (v : View) : Type 0 where
  pub first : v.history.birth ≡ 0
  pub childless : v.who.children ≡ []

-- the word is that of this lock
pub record IsWordOf (st : Step Slot) (l : lock.Lock) : Type 0 where
  pub there : IsLock l
  pub is : st.word ≡ number_of (lock_word l)

-- What a pass that has a row knows of its object: its head is whole, and says what the object is, with the keys of its class and
-- the inline values as the pass has them.
abbrev pub RowSays : World → lock.Lock → View → Type 0
RowSays opened locks.Types v = Unit {0}
RowSays opened (locks.Row o) v = IsWhole (copied_heads v o) × IsHeadOf (replay opened (hold_of (locks.Row o) v).since) o (copied_heads v o) (known_keys v) (copied_values v o)

-- where one object of which it has the row names the dictionary of another, that has the layout of a dictionary too
abbrev pub RowsAreNamed : View → Type 0
RowsAreNamed v = (r : ℕ) → holds (locks.Row r) v ≡ true → NamesRow v r → HasDictionary (shape_of (copied_heads v r))

-- What a pass that took the lock learns of the moment: it comes after what it had seen, and is that where the pass is alone;
-- the value in the slot is right; each lock that is held has kept what it protects; with a row comes what its head says;
-- and the births to come are above its own and those of the passes that were split off it or taken in.
pub record Took (opened : World) (l : lock.Lock) (v : View) (at : Moment) (x : Stored) : Type 0 where
  pub later : IsPrefix v.history.seen at.history
  pub alone : IsAlone v → at.history ≡ v.history.seen
  pub proper : IsProper opened at.history
  pub value : ValueAgrees opened l (taken l v at) at.lists x
  pub kept : AreKept opened (taken l v at)
  pub head : RowSays opened l (taken l v at)
  pub named : RowsAreNamed (taken l v at)
  pub numbers : length at.lists.numbers ≡ passes
  pub born : v.history.birth < at.lists.next_birth
  pub younger : (b : ℕ) → 0 < times b (v.who.children ++ births_of v.kept) → b < at.lists.next_birth

-- what a pass that found the lock held learns: the number of another pass, which holds it, and that it isn't alone
pub record Found (v : View) (word : ℕ) : Type 0 where
  pub number : ℕ
  pub is : word ≡ suc number
  pub small : number < passes
  pub other : number ≢ v.who.number
  pub company : ¬ IsAlone v

-- A try to take a lock stores the pass's number and 1 where it finds 0, and else nothing.
abbrev pub Takes : World → Step Slot → Me Slot View → ℕ → Me Slot View → Type 0
Takes opened st m n m' = (l : lock.Lock) → IsWordOf st l
    → (st.first ≡ 0) × (st.second ≡ suc m.0.who.number)
    × (n ≡ 0 → (at : Moment) × (x : Stored) × (m' ≡ (taken l m.0 at, (slot_of l, Some x) ∷ m.1)) × Took opened l m.0 at x)
    × (n ≢ 0 → (m' ≡ (missed l m.0 n, m.1)) × Found m.0 n)

-- What a join has brought: what two passes had seen when they were joined, and is no longer than what is seen now, begins
-- that; and no place is own twice.
pub record Brought (v : View) : Type 0 where
  pub first : length v.joined.first ≤ length v.history.seen → IsPrefix v.joined.first v.history.seen
  pub second : length v.joined.second ≤ length v.history.seen → IsPrefix v.joined.second v.history.seen
  pub once : (p : ℕ) → times p v.history.own ≤ 1

-- A load of the global sequence tells what it is, which isn't 0, and is the copy of who has the lock of the types.
abbrev pub LoadsGlobal : Step Slot → Me Slot View → ℕ → Me Slot View → Type 0
LoadsGlobal st m n m' = st.word ≡ number_of global_sequence → (m' ≡ (global_loaded m.0 n, m.1)) × (0 < n) × (holds locks.Types m.0 ≡ true → n ≡ m.0.types.words.global)

-- A pass that goes online stores what it loaded, and one that goes offline 0.
abbrev pub GoesOnline : Step Slot → Me Slot View → ℕ → Me Slot View → Type 0
GoesOnline st m n m' = st.word ≡ number_of (own_sequence m.0.who.number) → (st.first ≡ m.0.tags.global) × (m' ≡ (gone_online m.0, m.1))

abbrev pub GoesOffline : Step Slot → Me Slot View → ℕ → Me Slot View → Type 0
GoesOffline st m n m' = st.word ≡ number_of (own_sequence m.0.who.number) → (st.first ≡ 0) × (m' ≡ (gone_offline m.0, m.1))

-- A give stores 0.
abbrev pub Gives : Step Slot → Me Slot View → ℕ → Me Slot View → Type 0
Gives st m n m' = (l : lock.Lock) → IsWordOf st l → (st.first ≡ 0) × (m' ≡ (given l m.0, rest m.1)) × Brought m.0
