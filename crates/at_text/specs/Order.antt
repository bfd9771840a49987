-- private: no public clause cites it. The order of names by the bytes of their texts, as keys that are compared in place
-- of the texts.
use Rattle.std.specs.Prelude.{ℕ, ◌≡◌, ◌<◌, ◌≤◌, ◌-◌, List, false, slice_index}
use Rattle.std.specs.Ordering.{nat_cmp, ordering_then, is_gt}
use Rattle.std.specs.declared.cmp.Ordering.{Ordering}
use Rattle.std.specs.Cmp.Lexicographic.{slice_cmp}
use Rattle.at_value.specs.declared.value.Value.{Value}
use Rattle.at_value.specs.Widths as widths
use Rattle.at_text.specs.Values.{text_at}

-- two names by the bytes of their texts, and by their numbers where these are the same
abbrev pub name_cmp : List (List ℕ) → ℕ → ℕ → Ordering
name_cmp texts a b = ordering_then (slice_cmp nat_cmp (text_at texts a) (text_at texts b)) (nat_cmp a b)

-- the first name doesn't come after the second
abbrev pub IsUpto : List (List ℕ) → ℕ → ℕ → Type 0
IsUpto texts a b = is_gt (name_cmp texts a b) ≡ false

-- names of rising keys come one after another
abbrev pub AreKeys : List (List ℕ) → List ℕ → Type 0
AreKeys texts keys = (a b : ℕ) → a < widths.names → b < widths.names → slice_index keys a ≤ slice_index keys b → IsUpto texts a b

-- the keys of all names, and the pairs of one map, each after its key
pub record Order : Type 0 where
  pub keys : List ℕ
  pub entries : List (ℕ × ℕ × Value)

-- an entry without its key
abbrev pub pair_of : ℕ × ℕ × Value → ℕ × Value
pair_of entry = (entry.1, entry.2)

-- a pair after its key
abbrev pub keyed : List ℕ → ℕ × Value → ℕ × ℕ × Value
keyed keys pair = (slice_index keys pair.0, pair.0, pair.1)

-- The first names of the list have keys. A key is 1 and the place of its name among them, and 0 where none is given.
pub record AreGiven (count : ℕ) (sorted keys : List ℕ) : Type 0 where
  pub all : (k : ℕ) → k < count → 0 < slice_index keys (slice_index sorted k)
  pub within : (n : ℕ) → 0 < slice_index keys n → slice_index keys n - 1 < count
  pub places : (n : ℕ) → 0 < slice_index keys n → slice_index sorted (slice_index keys n - 1) ≡ n
