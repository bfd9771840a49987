-- What the head of an object, the keys of its class and its inline values say of the object.
use Rattle.std.specs.Prelude.{ℕ, suc, ◌≡◌, ◌≢◌, ◌≤◌, [], Some, None, slice_get, slice_index_or}
use Rattle.at_value.specs.Widths.{names}
pub use Rattle.at_dict.specs.Inline.{NoneIs, IsCell, IsWordOf, IsWordUnder, AreValuesOf}
use Rattle.at_model.specs.World.{World}
use Rattle.at_view.specs.Counts as counts
use Rattle.at_core.specs.Heads.{class_of, shape_of, unmade, inline}

-- Keys

-- The keys of a class: a word for each index, 0 or the number of a name and 1. There are only so many; those that are used stand
-- first, and no name stands twice.
pub record AreKeys (keys : ℕ → ℕ) : Type 0 where
  pub small : (i : ℕ) → keys i ≤ names
  pub past : (i : ℕ) → counts.keys ≤ i → keys i ≡ 0
  pub first : (i j : ℕ) → i ≤ j → keys i ≡ 0 → keys j ≡ 0
  pub distinct : (i j n : ℕ) → keys i ≡ suc n → keys j ≡ suc n → i ≡ j

-- keys that are used stay
abbrev pub HaveGrown : (ℕ → ℕ) → (ℕ → ℕ) → Type 0
HaveGrown keys more = (i : ℕ) → keys i ≢ 0 → more i ≡ keys i

-- Heads

-- The object has the class of the head and names the dictionary of its row; where the head is 0 there is no such object.
pub record IsObjectOf (w : World) (o word : ℕ) : Type 0 where
  pub absent : (shape_of word).layout ≡ unmade → (word ≡ 0) × (slice_get w.objects o ≡ None)
  pub present : (shape_of word).layout ≢ unmade
      → slice_get w.objects o ≡ Some (record { class = class_of word; dict = (shape_of word).row })

-- The head says what object it is; where there is none the inline words are 0; where it is inline the object names the dictionary that was born with it, and the inline
-- values are those of that dictionary, under the keys of the class.
pub record IsHeadOf (w : World) (o word : ℕ) (keys : ℕ → ℕ → ℕ) (cells : ℕ → ℕ) : Type 0 where
  pub object : IsObjectOf w o word
  pub blank : (shape_of word).layout ≡ unmade → (i : ℕ) → cells i ≡ 0
  pub row : (shape_of word).layout ≡ inline → (shape_of word).row ≡ o
  pub values : (shape_of word).layout ≡ inline → AreValuesOf (slice_index_or w.dicts o []) (keys (class_of word)) cells
