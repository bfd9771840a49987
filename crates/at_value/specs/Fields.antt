-- Words that are made of fields of bits.
use Rattle.std.specs.Prelude.{ℕ, ◌<◌, ◌≤◌, ◌+◌, ◌*◌, ◌^◌, List, [], ◌∷◌}

-- a number, and in how many bits it stands
pub record Field : Type 0 where
  pub width : ℕ
  pub value : ℕ

abbrev pub field : ℕ → ℕ → Field
field width value = record { width = width; value = value }

-- The number that is made of these fields: the first from bit 0 on, and each further one right above the one before it.
abbrev pub number_of : List Field → ℕ
number_of [] = 0
number_of (f ∷ fs) = number_of fs * 2 ^ f.width + f.value

-- how many bits the fields take together
abbrev pub bits_of : List Field → ℕ
bits_of [] = 0
bits_of (f ∷ fs) = f.width + bits_of fs

-- each number has no more bits than its field
abbrev pub AreWithin : List Field → Type 0
AreWithin [] = Unit {0}
AreWithin (f ∷ fs) = (f.value < 2 ^ f.width) × AreWithin fs

-- the fields stand in a word of 64 bits, and each number in its field
abbrev pub FitWord : List Field → Type 0
FitWord fields = AreWithin fields × (bits_of fields ≤ 64)

-- and so in each of several words
abbrev pub FitWords : List (List Field) → Type 0
FitWords [] = Unit {0}
FitWords (fields ∷ words) = FitWord fields × FitWords words
