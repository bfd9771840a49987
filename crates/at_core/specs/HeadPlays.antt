-- What each step on heads, keys and inline values tells the pass that makes it.
use Rattle.std.specs.Prelude.{ℕ, suc, ◌≡◌, ◌<◌, true, false, List, All, Some, None, slice_index, slice_get}
use mathlib.Core.List.{IsPrefix}
use Rattle.atomic_table.specs.Table.{Me, Step}
use Rattle.at_value.specs.Pairs.{value_at}
use Rattle.at_value.specs.Widths.{classes, objects}
use Rattle.at_value.specs.declared.operation.Op as op
use Rattle.at_model.specs.declared.rows.Object.{Object}
use Rattle.at_model.specs.World.{World}
use Rattle.at_model.specs.History.{replay}
use Rattle.at_view.specs.declared.view.HeadLook.{HeadLook}
use Rattle.at_view.specs.declared.view.View.{View}
use Rattle.at_view.specs.Counts.{keys, inline_values}
use Rattle.at_view.specs.Words.{number_of, head, key, inline_value}
use Rattle.at_core.specs.declared.lock.Lock.TheVariants as locks
use Rattle.at_core.specs.Heads.{class_of, shape_of, IsHead, IsWhole, IsOpened, IsInline}
use Rattle.at_core.specs.HeadSteps.{head_loaded, inline_loaded, key_loaded, head_opened, head_closed, inline_stored, key_appended, copied_values, copied_keys_of}
use Rattle.at_core.specs.Inline.{AreKeys, HaveGrown, NoneIs, IsCell, IsObjectOf}
use Rattle.at_core.specs.Locks.{holds}
use Rattle.at_core.specs.Looks.{keys_at, born_with, CellSays, KeyStays, UnusedSays}
use Rattle.at_core.specs.PlacePlays.{Saw}
use Rattle.at_core.specs.Rule.{Slot}
use Rattle.at_core.specs.Steps.{copied_heads}

-- What a look at a head says of a later point of the history, where the head was found to be the same word after that: the object is
-- as it was at the look; and where it is inline, so is its dictionary, of which the values and keys that were loaded tell, and a name
-- that has no key has no value.
pub record Says (opened : World) (keys_are : ℕ → ℕ → ℕ) (seen : List op.Op) (look : HeadLook) : Type 0 where
  pub object : IsObjectOf (replay opened look.at) look.object look.word
  pub row : IsInline look.word → (shape_of look.word).row ≡ look.object
  pub stays : slice_get (replay opened seen).objects look.object ≡ slice_get (replay opened look.at).objects look.object
  pub born : IsInline look.word → born_with opened seen look.object ≡ born_with opened look.at look.object
  pub cells : IsInline look.word → All (CellSays look.object (born_with opened look.at look.object)) look.cells
  pub used : All (KeyStays keys_are) look.keys
  pub unused : IsInline look.word → All (UnusedSays keys_are (class_of look.word) (born_with opened look.at look.object)) look.keys
  pub named : IsInline look.word → (n : ℕ) → NoneIs n (keys_are (class_of look.word)) → value_at n (born_with opened look.at look.object) ≡ None

-- so it is with a look at this object, where the word was the same and whole, and it was made before what the pass has seen
abbrev pub Shows : World → ℕ → ℕ → (ℕ → ℕ → ℕ) → List op.Op → HeadLook → Type 0
Shows opened o word keys_are seen look = look.object ≡ o → word ≡ look.word → IsWhole look.word → IsPrefix look.at seen → Says opened keys_are seen look

-- What a load of a head tells: the history of the moment, in which each lock that is held has kept what it protects; what a head
-- that is whole says of its object; the class of an object whose head is open, to who has
-- the lock of the types; that it is the copy of who has the row; and what all earlier looks at the object say.
pub record SawHead (opened : World) (v : View) (o word : ℕ) (at : List op.Op) (keys_are : ℕ → ℕ → ℕ) : Type 0 where
  pub saw : Saw opened v at
  pub keys : (c : ℕ) → AreKeys (keys_are c)
  pub is : IsHead word
  pub object : IsWhole word → IsObjectOf (replay opened at) o word
  pub row : IsInline word → (shape_of word).row ≡ o
  pub class : IsOpened word → holds locks.Types v ≡ true → holds (locks.Row o) v ≡ false
      → (found : Object) → slice_get (replay opened at).objects o ≡ Some found → found.class ≡ class_of word
  pub copy : holds (locks.Row o) v ≡ true → word ≡ copied_heads v o
  pub looks : All (Shows opened o word keys_are v.history.seen) v.looks

-- A load of a head.
abbrev pub LoadsHead : World → Step Slot → Me Slot View → ℕ → Me Slot View → Type 0
LoadsHead opened st m n m' = (o : ℕ) → o < objects → st.word ≡ number_of (head o)
    → (at : List op.Op) × (keys_are : ℕ → ℕ → ℕ) × (m' ≡ (head_loaded m.0 o at n, m.1)) × SawHead opened m.0 o n at keys_are

-- What a load of an inline value tells: it is 0 or the word of a value, and the copy of who has the row; and keys that were found used
-- are still those that there are.
pub record SawCell (v : View) (o i word : ℕ) (keys_are : ℕ → ℕ → ℕ) : Type 0 where
  pub cell : IsCell word
  pub keys : (c : ℕ) → AreKeys (keys_are c)
  pub used : All (λ look. All (KeyStays keys_are) look.keys) v.looks
  pub copy : holds (locks.Row o) v ≡ true → word ≡ copied_values v o i

-- A load of an inline value.
abbrev pub LoadsInline : Step Slot → Me Slot View → ℕ → Me Slot View → Type 0
LoadsInline st m n m' = (o i : ℕ) → o < objects → i < inline_values → st.word ≡ number_of (inline_value o i)
    → (keys_are : ℕ → ℕ → ℕ) × (m' ≡ (inline_loaded m.0 o i keys_are n, m.1)) × SawCell m.0 o i n keys_are

-- What a load of a key tells: all keys of the class, which have grown from those that the pass knew, and are the copy of who has the
-- lock of the types.
pub record SawKey (v : View) (c i word : ℕ) (known : List ℕ) : Type 0 where
  pub is : word ≡ slice_index known i
  pub keys : AreKeys (slice_index known)
  pub grown : HaveGrown (slice_index (keys_at c v.known)) (slice_index known)
  pub copy : holds locks.Types v ≡ true → known ≡ copied_keys_of v c

-- A load of a key.
abbrev pub LoadsKey : Step Slot → Me Slot View → ℕ → Me Slot View → Type 0
LoadsKey st m n m' = (c i : ℕ) → c < classes → i < keys → st.word ≡ number_of (key c i)
    → (known : List ℕ) × (m' ≡ (key_loaded m.0 c i known n, m.1)) × SawKey m.0 c i n known

-- A head is opened with the word after the copy, closed with any other, an inline value is stored, and a key is appended.
abbrev pub OpensHead : Step Slot → Me Slot View → ℕ → Me Slot View → Type 0
OpensHead st m n m' = (o : ℕ) → o < objects → st.word ≡ number_of (head o) → (st.first ≡ suc (copied_heads m.0 o)) × (m' ≡ (head_opened m.0 o, m.1))

abbrev pub ClosesHead : Step Slot → Me Slot View → ℕ → Me Slot View → Type 0
ClosesHead st m n m' = (o : ℕ) → o < objects → st.word ≡ number_of (head o) → m' ≡ (head_closed m.0 o st.first, m.1)

abbrev pub StoresInline : Step Slot → Me Slot View → ℕ → Me Slot View → Type 0
StoresInline st m n m' = (o i : ℕ) → o < objects → i < inline_values → st.word ≡ number_of (inline_value o i) → m' ≡ (inline_stored m.0 o i st.first, m.1)

abbrev pub AppendsKey : Step Slot → Me Slot View → ℕ → Me Slot View → Type 0
AppendsKey st m n m' = (c i name : ℕ) → c < classes → i < keys → st.word ≡ number_of (key c i) → st.first ≡ suc name → m' ≡ (key_appended m.0 c i name, m.1)
