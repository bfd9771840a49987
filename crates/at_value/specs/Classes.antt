-- Numbers of classes.
use Rattle.std.specs.Prelude.{ℕ, ◌<◌, List, slice_index}
use Rattle.at_value.specs.Widths.{classes}

-- each number is that of a class
abbrev pub AreClasses : List ℕ → Type 0
AreClasses numbers = (i : ℕ) → slice_index numbers i < classes
