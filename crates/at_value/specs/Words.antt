-- How a value is written as a word of 64 bits. The layout is this project's own.
use Rattle.std.specs.Prelude.{ℕ, ◌≡◌, ◌<◌, List, [], ◌∷◌, FitsSigned}
use Rattle.std.specs.Int.{w32, cast_unsigned}
use Rattle.at_value.specs.declared.value.Value as value
use Rattle.at_value.specs.declared.value.Value.TheVariants as values
use Rattle.at_value.specs.Parts.{held, IsPart}
use Rattle.at_value.specs.Widths.{names, objects, classes, functions, kind_bits, integer_bits, name_bits, object_bits, class_bits, function_bits, part_bits}
use Rattle.at_value.specs.Fields.{Field, field, number_of}

-- each number of the value is in its range
abbrev pub IsValue : value.Value → Type 0
IsValue values.Nothing = Unit {0}
IsValue (values.Int i) = FitsSigned w32 i
IsValue (values.Text n) = n < names
IsValue (values.Func f) = f < functions
IsValue (values.Prop p) = IsPart p.get × IsPart p.set × IsPart p.del
IsValue (values.Static f) = f < functions
IsValue (values.ClassM f) = f < functions
IsValue (values.Class c) = c < classes
IsValue (values.Obj o) = o < objects

-- The fields of a value's word from bit 0 on. The first is the kind. An integer is in two's complement, and each part of a
-- property is the function's number and one more, or 0 where there is none.
abbrev pub fields_of : value.Value → List Field
fields_of values.Nothing = field kind_bits 1 ∷ []
fields_of (values.Int i) = field kind_bits 2 ∷ field integer_bits (cast_unsigned w32 i) ∷ []
fields_of (values.Text n) = field kind_bits 3 ∷ field name_bits n ∷ []
fields_of (values.Func f) = field kind_bits 4 ∷ field function_bits f ∷ []
fields_of (values.Prop p) = field kind_bits 5 ∷ field part_bits (held p.get) ∷ field part_bits (held p.set) ∷ field part_bits (held p.del) ∷ []
fields_of (values.Static f) = field kind_bits 6 ∷ field function_bits f ∷ []
fields_of (values.ClassM f) = field kind_bits 7 ∷ field function_bits f ∷ []
fields_of (values.Class c) = field kind_bits 8 ∷ field class_bits c ∷ []
fields_of (values.Obj o) = field kind_bits 9 ∷ field object_bits o ∷ []

-- the word of a value; the bits above its fields are 0
abbrev pub word_of : value.Value → ℕ
word_of v = number_of (fields_of v)

-- v is in range, and w is its word
abbrev pub HasWord : value.Value → ℕ → Type 0
HasWord v w = IsValue v × (word_of v ≡ w)
