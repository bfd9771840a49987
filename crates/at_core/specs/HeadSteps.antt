-- Steps on heads, keys and inline values.
use Rattle.std.specs.Prelude.{ℕ, suc, ◌≡◌, ◌≢◌, ◌⊎◌, ◌<◌, true, List, [], ◌∷◌, map, Some, None, slice_set, slice_index, slice_index_or}
use Rattle.at_value.specs.Widths.{classes, names}
use Rattle.at_value.specs.declared.operation.Op as op
use Rattle.at_model.specs.World.{World}
use Rattle.at_model.specs.History.{replay}
use Rattle.at_view.specs.declared.mark.StepKind as step_kind
use Rattle.at_view.specs.declared.mark.StepKind.TheVariants as kinds
use Rattle.at_view.specs.declared.view.HeadLook.{HeadLook}
use Rattle.at_view.specs.declared.view.RowWords.{RowWords}
use Rattle.at_view.specs.declared.view.View.{View}
use Rattle.at_view.specs.Counts.{keys, inline_values}
use Rattle.at_view.specs.Words.{head, key, inline_value}
use Rattle.at_core.specs.declared.lock.Lock.TheVariants as locks
use Rattle.at_core.specs.Heads.{class_of, sequence_of, shape_of, unmade, HasDictionary, IsHead, IsWhole, IsOpened}
use Rattle.at_core.specs.Inline.{NoneIs, IsCell, IsHeadOf}
use Rattle.at_core.specs.Locks.{hold_of, holds, copy_at}
use Rattle.at_core.specs.Looks.{keys_at}
use Rattle.at_core.specs.Steps.{mark, marked, copied_heads}

-- Loads: asked is nothing. What is loaded joins each look that the pass has, or is a look of its own

abbrev pub head_loaded : View → ℕ → List op.Op → ℕ → View
head_loaded v o at word = marked (record v { looks = (record { object = o; word = word; at = at; cells = []; keys = [] }) ∷ v.looks })
    (mark kinds.HeadLoad (head o) (Some word) (Some word))

-- an inline value stands with the key that its index has in the class of the look's head
abbrev pub with_cell : ℕ → ℕ → (ℕ → ℕ → ℕ) → ℕ → HeadLook → HeadLook
with_cell o i keys_are word look = record look { cells = (record { object = o; index = i; key = keys_are (class_of look.word) i; word = word }) ∷ look.cells }

abbrev pub inline_loaded : View → ℕ → ℕ → (ℕ → ℕ → ℕ) → ℕ → View
inline_loaded v o i keys_are word = marked (record v { looks = map (with_cell o i keys_are word) v.looks })
    (mark kinds.InlineLoad (inline_value o i) (Some word) (Some word))

abbrev pub with_key : ℕ → ℕ → ℕ → HeadLook → HeadLook
with_key c i word look = record look { keys = (record { class = c; index = i; word = word }) ∷ look.keys }

-- the pass knows the keys of the class as they are now
abbrev pub key_loaded : View → ℕ → ℕ → List ℕ → ℕ → View
key_loaded v c i known word = marked (record v { known = (record { class = c; keys = known }) ∷ v.known; looks = map (with_key c i word) v.looks })
    (mark kinds.KeyLoad (key c i) (Some word) (Some word))

-- Heads

-- the words of a row are now these
abbrev pub with_row : ℕ → RowWords → View → View
with_row o words v = record v { rows = (record { object = o; words = words }) ∷ v.rows }

abbrev pub head_stored : step_kind.StepKind → View → ℕ → ℕ → View
head_stored kind v o word = marked (with_row o (record (copy_at o v.rows) { head = word }) v) (mark kind (head o) None (Some word))

-- Opening a head: asked is that the row is held, and that the head is whole and its sequence below the limit
pub record MayOpen (v : View) (o : ℕ) : Type 0 where
  pub held : holds (locks.Row o) v ≡ true
  pub whole : IsWhole (copied_heads v o)
  pub below : sequence_of (copied_heads v o) < v.who.limits.head_max

abbrev pub head_opened : View → ℕ → View
head_opened v o = head_stored kinds.HeadOpen v o (suc (copied_heads v o))

-- what a view knows of the keys of each class, and has of the inline values of an object
abbrev pub known_keys : View → ℕ → ℕ → ℕ
known_keys v c = slice_index (keys_at c v.known)

abbrev pub copied_values : View → ℕ → ℕ → ℕ
copied_values v o = slice_index (copy_at o v.rows).values

-- an object whose row is held has the layout of a dictionary, in this row
abbrev pub NamesRow : View → ℕ → Type 0
NamesRow v r = (o : ℕ) × (holds (locks.Row o) v ≡ true) × HasDictionary (shape_of (copied_heads v o)) × ((shape_of (copied_heads v o)).row ≡ r)

-- Closing a head: asked is that the row is held, that the sequence is one above that of the open head, and that the head, with the
-- keys that the pass knows and its inline values, says what its object is after what the lock has kept. An object doesn't go back
-- to inline values, and the row of a dictionary is its own, or that of another object that is held.
pub record MayClose (opened : World) (v : View) (o word : ℕ) : Type 0 where
  pub held : holds (locks.Row o) v ≡ true
  pub is : IsHead word
  pub whole : IsWhole word
  pub next : sequence_of word ≡ suc (sequence_of (copied_heads v o))
  pub made : (shape_of word).layout ≢ unmade
  pub says : IsHeadOf (replay opened (hold_of (locks.Row o) v).since) o word (known_keys v) (copied_values v o)
  pub stays : HasDictionary (shape_of (copied_heads v o)) → HasDictionary (shape_of word)
  pub named : HasDictionary (shape_of word) → ((shape_of word).row ≡ o) ⊎ NamesRow v (shape_of word).row

abbrev pub head_closed : View → ℕ → ℕ → View
head_closed v o word = head_stored kinds.HeadClose v o word

-- Inline values: asked is that the head is open, and that the word is 0 or that of a value

pub record MayStore (v : View) (o i word : ℕ) : Type 0 where
  pub held : holds (locks.Row o) v ≡ true
  pub is_open : IsOpened (copied_heads v o)
  pub index : i < inline_values
  pub cell : IsCell word

abbrev pub inline_stored : View → ℕ → ℕ → ℕ → View
inline_stored v o i word = marked (with_row o (record (copy_at o v.rows) { values = slice_set (copy_at o v.rows).values i word }) v)
    (mark kinds.InlineStore (inline_value o i) None (Some word))

-- Keys

-- the keys that the holder of the lock of the types has of a class
abbrev pub copied_keys_of : View → ℕ → List ℕ
copied_keys_of v c = slice_index_or v.types.words.keys c []

-- Appending a key: asked is the lock of the types, that the key is the first that isn't used, and that no key is that of the name
pub record MayAppend (v : View) (c i n : ℕ) : Type 0 where
  pub held : holds locks.Types v ≡ true
  pub class : c < classes
  pub index : i < keys
  pub unused : slice_index (copied_keys_of v c) i ≡ 0
  pub earlier : (j : ℕ) → j < i → slice_index (copied_keys_of v c) j ≢ 0
  pub name : n < names
  pub absent : NoneIs n (slice_index (copied_keys_of v c))

abbrev pub key_appended : View → ℕ → ℕ → ℕ → View
key_appended v c i n = marked (record v {
  types = record v.types { words = record v.types.words { keys = slice_set v.types.words.keys c (slice_set (copied_keys_of v c) i (suc n)) } };
  known = (record { class = c; keys = slice_set (copied_keys_of v c) i (suc n) }) ∷ v.known;
}) (mark kinds.KeyAppend (key c i) None (Some (suc n)))
