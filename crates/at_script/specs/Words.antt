-- Identifiers, names of attributes, and numbers.
use Rattle.std.specs.Prelude.{ℕ, ◌==◌, nat_eq, nat_le, Bool, false, not, ◌&&◌, ◌||◌, List, [], ◌∷◌, length, Option, Some, None, if◌then◌else◌, codes, bytes_eq, ℤ, pos, negsuc, int_le}
use Rattle.std.specs.List.{list_all, starts_with, ends_with}
use Rattle.std.specs.Char.{is_ascii_alphabetic, is_ascii_alphanumeric}
use Rattle.std.specs.Str.Parse.{signed_digits_value}
use Rattle.at_script.specs.Bytes as bytes
use Rattle.at_script.specs.Limits as limits

-- a letter or `_`
abbrev pub begins_identifier : ℕ → Bool
begins_identifier byte = is_ascii_alphabetic byte || byte == bytes.underscore

-- a letter, a digit or `_`
abbrev pub continues_identifier : ℕ → Bool
continues_identifier byte = is_ascii_alphanumeric byte || byte == bytes.underscore

-- An identifier is a letter or `_`, and then letters, digits or `_`. It may still be too long, or reserved.
abbrev pub is_identifier : List ℕ → Bool
is_identifier [] = false
is_identifier (first ∷ rest) = begins_identifier first && list_all continues_identifier rest

abbrev pub is_short : List ℕ → Bool
is_short word = nat_le (length word) limits.most_identifier_bytes

-- what a running function was given, and the result of the last read or call
abbrev pub is_register : List ℕ → Bool
is_register word = bytes_eq word (codes "self") || bytes_eq word (codes "arg") || bytes_eq word (codes "other") || bytes_eq word (codes "it")

abbrev pub is_object : List ℕ → Bool
is_object word = bytes_eq word (codes "object")

-- the words that scripts use for something else than a name
abbrev pub is_reserved : List ℕ → Bool
is_reserved word = bytes_eq word (codes "none") || is_register word || is_object word

-- an identifier that a script may give a meaning
abbrev pub is_free : List ℕ → Bool
is_free word = is_short word && not (is_reserved word)

-- Names that begin and end with `__` belong to the language (Python language reference, section 2.3.2).
abbrev pub is_system_name : List ℕ → Bool
is_system_name word = starts_with nat_eq word (codes "__") && ends_with nat_eq word (codes "__")

-- those that attribute access looks up
abbrev pub is_access_name : List ℕ → Bool
is_access_name word =
    bytes_eq word (codes "__get__") || bytes_eq word (codes "__set__") || bytes_eq word (codes "__delete__") || bytes_eq word (codes "__getattr__")
    || bytes_eq word (codes "__init__")

-- those of the special methods that a script may name besides
abbrev pub is_method_name : List ℕ → Bool
is_method_name word =
    bytes_eq word (codes "__len__") || bytes_eq word (codes "__bool__") || bytes_eq word (codes "__iter__") || bytes_eq word (codes "__next__")
    || bytes_eq word (codes "__enter__") || bytes_eq word (codes "__exit__") || bytes_eq word (codes "__contains__")
    || bytes_eq word (codes "__getitem__")

-- a name of the language is one of these
abbrev pub is_open_name : List ℕ → Bool
is_open_name word = not (is_system_name word) || is_access_name word || is_method_name word

-- An attribute may be called by any free identifier but `mro` and the names of the language that aren't listed here.
abbrev pub is_attribute_name : List ℕ → Bool
is_attribute_name word = is_free word && not (bytes_eq word (codes "mro")) && is_open_name word

abbrev pub identifier_of : List ℕ → Option (List ℕ)
identifier_of word = if is_identifier word then Some word else None

-- the signed numbers of 32 bits
abbrev pub least_integer : ℤ
least_integer = negsuc 2147483647

abbrev pub greatest_integer : ℤ
greatest_integer = pos 2147483647

abbrev pub is_in_range : ℤ → Bool
is_in_range z = int_le least_integer z && int_le z greatest_integer

-- how many statements each thread may begin
abbrev pub is_budget : ℤ → Bool
is_budget z = int_le (pos 1) z && int_le z (pos limits.most_budget)

abbrev pub is_digit : ℕ → Bool
is_digit byte = nat_le bytes.zero byte && nat_le byte bytes.nine

-- digits of which the first isn't `0`
abbrev pub is_positive : List ℕ → Bool
is_positive [] = false
is_positive (first ∷ rest) = is_digit first && not (first == bytes.zero) && list_all is_digit rest

-- after a `-`
abbrev pub is_negative : List ℕ → Bool
is_negative [] = false
is_negative (first ∷ rest) = first == bytes.minus && is_positive rest

-- `0`, or digits without a leading zero, after a `-` or not
abbrev pub is_number : List ℕ → Bool
is_number word = bytes_eq word (codes "0") || is_positive word || is_negative word

-- the number that the word writes
abbrev pub number_of : List ℕ → Option ℤ
number_of word = if is_number word then Some (signed_digits_value 10 word) else None
