-- How a value is put into a word and read from it: what stands under each kind. Only private functions cite it: what the
-- public ones promise of words is said by the words of values and operations.
use Rattle.std.specs.Prelude.{ℕ, suc, ◌/◌, ◌%◌, ◌^◌, ◌==◌, nat_lt, ◌&&◌, Option, Some, None, option_map, if◌then◌else◌}
use Rattle.std.specs.Int.{w32, cast_unsigned, cast_signed}
use Rattle.at_value.specs.declared.value.Value as value
use Rattle.at_value.specs.declared.value.Value.TheVariants as values
use Rattle.at_value.specs.Widths.{names, objects, classes, functions, kind_bits, integer_bits, part_bits}
use Rattle.at_value.specs.Parts.{PropertyParts, part}

-- the bits of an integer, and the number of a text, a function, a class or an object; each is 0 for any other value
abbrev pub integer_in : value.Value → ℕ
integer_in (values.Int i) = cast_unsigned w32 i
integer_in _ = 0

abbrev pub index_in : value.Value → ℕ
index_in (values.Text n) = n
index_in (values.Func f) = f
index_in (values.Static f) = f
index_in (values.ClassM f) = f
index_in (values.Class c) = c
index_in (values.Obj o) = o
index_in _ = 0

-- the number, where it is below the bound
abbrev pub below : ℕ → ℕ → Option ℕ
below bound n = if nat_lt n bound then Some n else None

-- a property from its three parts in one number
abbrev pub parts_at : ℕ → Option PropertyParts
parts_at n =
    if nat_lt (n % 2 ^ part_bits) (suc functions) && nat_lt (n / 2 ^ part_bits % 2 ^ part_bits) (suc functions) && nat_lt (n / 2 ^ part_bits / 2 ^ part_bits) (suc functions)
    then Some (record { get = part (n % 2 ^ part_bits); set = part (n / 2 ^ part_bits % 2 ^ part_bits); del = part (n / 2 ^ part_bits / 2 ^ part_bits) })
    else None

-- the value of this kind with this number above the kind
abbrev pub value_at_kind : ℕ → ℕ → Option value.Value
value_at_kind kind rest =
    if kind == 1 then option_map (λ _. values.Nothing) (below 1 rest)
    else if kind == 2 then option_map (λ n. values.Int (cast_signed w32 n)) (below (2 ^ integer_bits) rest)
    else if kind == 3 then option_map values.Text (below names rest)
    else if kind == 4 then option_map values.Func (below functions rest)
    else if kind == 5 then option_map values.Prop (parts_at rest)
    else if kind == 6 then option_map values.Static (below functions rest)
    else if kind == 7 then option_map values.ClassM (below functions rest)
    else if kind == 8 then option_map values.Class (below classes rest)
    else if kind == 9 then option_map values.Obj (below objects rest)
    else None

-- the value in a word
abbrev pub value_in_word : ℕ → Option value.Value
value_in_word w = value_at_kind (w % 2 ^ kind_bits) (w / 2 ^ kind_bits)
