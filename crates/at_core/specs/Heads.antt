-- The head of an object. Its lowest bits are the sequence, odd while the object is being written; then come the class, the
-- layout and the dictionary row.
use Rattle.std.specs.Prelude.{ℕ, ◌≡◌, ◌<◌, ◌≤◌, ◌+◌, ◌^◌, ◌/◌, ◌%◌}
use Rattle.at_value.specs.Widths.{classes, class_bits, object_bits}

abbrev pub sequence_bits : ℕ
sequence_bits = 40

abbrev pub layout_bits : ℕ
layout_bits = 2

-- the layouts: an object that isn't made, one whose values stand in its inline words, and one whose values stand in the
-- dictionary of a row
abbrev pub unmade : ℕ
unmade = 0

abbrev pub inline : ℕ
inline = 1

abbrev pub dictionary : ℕ
dictionary = 2

abbrev pub class_of : ℕ → ℕ
class_of word = word / 2 ^ sequence_bits % 2 ^ class_bits

-- the layout, and the row
pub record Shape : Type 0 where
  pub layout : ℕ
  pub row : ℕ

abbrev pub shape_of : ℕ → Shape
shape_of word = record {
  layout = word / 2 ^ (sequence_bits + class_bits) % 2 ^ layout_bits;
  row = word / 2 ^ (sequence_bits + class_bits + layout_bits) % 2 ^ object_bits;
}

-- a head has the number of a class and one of the layouts, open or not
abbrev pub IsHead : ℕ → Type 0
IsHead word = (class_of word < classes) × ((shape_of word).layout ≤ dictionary)

abbrev pub HasDictionary : Shape → Type 0
HasDictionary shape = shape.layout ≡ dictionary

abbrev pub sequence_of : ℕ → ℕ
sequence_of word = word % 2 ^ sequence_bits

-- even while nobody writes the object
abbrev pub IsWhole : ℕ → Type 0
IsWhole word = word % 2 ≡ 0

abbrev pub IsOpened : ℕ → Type 0
IsOpened word = word % 2 ≡ 1

-- whole, and its values stand in the inline words
abbrev pub IsInline : ℕ → Type 0
IsInline word = IsWhole word × ((shape_of word).layout ≡ inline)
