-- The word of a head.
use Rattle.std.specs.Prelude.{ℕ, suc, ◌≡◌, ◌+◌, ◌*◌, ◌^◌}
use Rattle.at_value.specs.Widths.{class_bits}
use Rattle.at_view.specs.declared.view.View.{View}
use Rattle.at_core.specs.Heads.{sequence_bits, layout_bits, unmade, inline, dictionary, class_of, shape_of, sequence_of}
use Rattle.at_core.specs.Steps.{copied_heads}
use Rattle.at_head.specs.declared.head.Head.{Head}
use Rattle.at_head.specs.declared.head.Layout as layout
use Rattle.at_head.specs.declared.head.Layout.TheVariants as layouts

-- the number of a layout
abbrev pub layout_number : layout.Layout → ℕ
layout_number layouts.Unmade = unmade
layout_number layouts.Inline = inline
layout_number layouts.Dictionary = dictionary

-- the word has this sequence, class, layout and row
pub record HasWord (head : Head) (word : ℕ) : Type 0 where
  pub sequence : sequence_of word ≡ head.sequence
  pub class : class_of word ≡ head.class
  pub shape : shape_of word ≡ record { layout = layout_number head.layout; row = head.row }

-- the word of a head: the sequence from bit 0 on, and above it the class, the layout and the row
abbrev pub word_of : Head → ℕ
word_of head = head.sequence + 2 ^ sequence_bits * (head.class + 2 ^ class_bits * (layout_number head.layout + 2 ^ layout_bits * head.row))

-- a head that the view has open, closed with this class, layout and row
abbrev pub closed_with : View → ℕ → ℕ → layout.Layout → ℕ → Head
closed_with v o class layout row = record { sequence = suc (sequence_of (copied_heads v o)); class = class; layout = layout; row = row }
