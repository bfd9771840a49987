-- What a loaded head says, as long as the head is found to be the same word: the object is as it was at that load, and so is
-- what was loaded of its values and keys since.
use Rattle.std.specs.Prelude.{ℕ, suc, ◌≡◌, ◌≢◌, ◌<◌, ◌≤◌, ◌==◌, List, [], ◌∷◌, None, if◌then◌else◌, slice_get, slice_index_or, All}
use mathlib.Core.List.{IsPrefix}
use Rattle.at_value.specs.Pairs.{value_at}
use Rattle.at_value.specs.declared.operation.Op as op
use Rattle.at_model.specs.World.{World, Map}
use Rattle.at_model.specs.History.{replay}
use Rattle.at_view.specs.declared.view.ClassKeys.{ClassKeys}
use Rattle.at_view.specs.declared.view.HeadLook.{HeadLook}
use Rattle.at_view.specs.declared.view.InlineCell.{InlineCell}
use Rattle.at_view.specs.declared.view.KeyCell.{KeyCell}
use Rattle.at_core.specs.Heads.{class_of, sequence_of, IsWhole, IsInline}
use Rattle.at_core.specs.Inline.{IsWordUnder}

-- the keys that a class is known to have: the first entry counts
abbrev pub keys_at : ℕ → List ClassKeys → List ℕ
keys_at c [] = []
keys_at c (entry ∷ entries) = if c == entry.class then entry.keys else keys_at c entries

-- the dictionary that was born with the object, after a history
abbrev pub born_with : World → List op.Op → ℕ → Map
born_with opened history o = slice_index_or (replay opened history).dicts o []

-- between the two points the object has the same class and names the same dictionary
abbrev pub ObjectStays : World → ℕ → List op.Op → List op.Op → Type 0
ObjectStays opened o at history = (point : List op.Op) → IsPrefix at point → IsPrefix point history
    → slice_get (replay opened point).objects o ≡ slice_get (replay opened at).objects o

-- the dictionary that was born with it has the same pairs
abbrev pub BornStays : World → ℕ → List op.Op → List op.Op → Type 0
BornStays opened o at history = (point : List op.Op) → IsPrefix at point → IsPrefix point history
    → born_with opened point o ≡ born_with opened at o

-- an inline value of the object stands under the key that was there
abbrev pub CellSays : ℕ → Map → InlineCell → Type 0
CellSays o pairs cell = cell.object ≡ o → (n : ℕ) → cell.key ≡ suc n → IsWordUnder n pairs cell.word

-- a key that was found used stays
abbrev pub KeyStays : (ℕ → ℕ → ℕ) → KeyCell → Type 0
KeyStays keys cell = cell.word ≢ 0 → keys cell.class cell.index ≡ cell.word

-- where a key of the class was found unused, a name has no value that has no earlier key
abbrev pub UnusedSays : (ℕ → ℕ → ℕ) → ℕ → Map → KeyCell → Type 0
UnusedSays keys c pairs cell = cell.class ≡ c → cell.word ≡ 0
    → (n : ℕ) → ((i : ℕ) → i < cell.index → keys c i ≢ suc n) → value_at n pairs ≡ None

-- What a look at a head says while the head of its object is this word.
pub record IsBacked (opened : World) (head : ℕ) (keys : ℕ → ℕ → ℕ) (history : List op.Op) (look : HeadLook) : Type 0 where
  pub begins : IsPrefix look.at history
  pub risen : sequence_of look.word ≤ sequence_of head
  pub used : All (KeyStays keys) look.keys
  pub object : head ≡ look.word → IsWhole look.word → ObjectStays opened look.object look.at history
  pub born : head ≡ look.word → IsInline look.word → BornStays opened look.object look.at history
  pub cells : head ≡ look.word → IsInline look.word → All (CellSays look.object (born_with opened look.at look.object)) look.cells
  pub unused : head ≡ look.word → IsInline look.word
      → All (UnusedSays keys (class_of look.word) (born_with opened look.at look.object)) look.keys
