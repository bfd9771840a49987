-- private: no public clause cites it. Names and values, as they are read.
use Rattle.std.specs.Prelude.{ℕ, zero, suc, ◌==◌, ◌+◌, ◌^◌, nat_le, Bool, false, ◌&&◌, List, [], ◌∷◌, length, Option, Some, None, if◌then◌else◌, codes, bytes_eq, ℤ, pos, negsuc}
use Rattle.std.specs.Option.{option_map}
use Rattle.std.specs.List.{list_all}
use Rattle.at_value.specs.Parts.{PropertyParts}
use Rattle.at_value.specs.Widths as widths
use Rattle.at_value.specs.declared.value.Value as value
use Rattle.at_value.specs.declared.value.Value.TheVariants.{Nothing, Int, Text, Func, Prop, Static, ClassM, Class, Obj}
use Rattle.at_name.specs.Texts.{place_of}
use Rattle.at_script.specs.Bytes as bytes
use Rattle.at_script.specs.Parts.{ScriptParts}
use Rattle.at_script.specs.Words.{begins_identifier, is_digit}
use Rattle.at_text.specs.Words as words
use Rattle.at_text.specs.Readers.{Reader, Row, nothing, made, passing, both, after, before, choice, run, past_run, begins_run, begins_with, number_below, number_at, positive_at, name_at, numbered}

-- `#N`
abbrev pub object_at : Reader ℕ
object_at = after (codes "#") (number_at widths.objects)

-- `#N.x`
abbrev pub object_attribute_at : ScriptParts → Reader (ℕ × ℕ)
object_attribute_at s = both (before object_at (codes ".")) (name_at s.names)

-- `C.x`
abbrev pub class_attribute_at : ScriptParts → Reader (ℕ × ℕ)
class_attribute_at s = both (before (name_at s.classes) (codes ".")) (name_at s.names)

-- a class, with a blank before it
abbrev pub class_item_at : ScriptParts → Reader ℕ
class_item_at s = after (codes " ") (name_at s.classes)

abbrev pub begins_name : List ℕ → Bool
begins_name [] = false
begins_name (byte ∷ text) = begins_identifier byte

-- a blank and a name follow
abbrev pub begins_item : List ℕ → Bool
begins_item [] = false
begins_item (byte ∷ text) = byte == bytes.space && begins_name text

-- classes, each with a blank before it
abbrev pub classes_at : ScriptParts → Reader (List ℕ)
classes_at s = numbered begins_item (λ _. class_item_at s)

-- no more than a class may have as its bases
abbrev pub bases_at : ScriptParts → Reader (List ℕ)
bases_at s = passing (λ bases. nat_le (length bases) widths.most_bases) (classes_at s)

-- a part of a property: its function, or `-`
abbrev pub part_at : ScriptParts → Reader (Option ℕ)
part_at s = λ text.
    if begins_run text then made Some (name_at s.funcs) text else after (codes "-") (nothing None) text

-- what the functions of a property make
abbrev pub property : (Option ℕ × Option ℕ) × Option ℕ → PropertyParts
property parts = record { get = parts.0.0; set = parts.0.1; del = parts.1 }

-- `P,P,P`
abbrev pub property_at : ScriptParts → Reader PropertyParts
property_at s =
    made property (both (before (both (before (part_at s) (codes ",")) (part_at s)) (codes ",")) (part_at s))

-- the number below zero with these digits
abbrev pub negated : ℕ → ℤ
negated zero = pos zero
negated (suc n) = negsuc n

-- the number after a `-`, which isn't 0
abbrev pub negative_at : Reader value.Value
negative_at = made (λ n. Int (negated n)) (positive_at (2 ^ 31 + 1))

-- a function or a class, by which of them the place is given
abbrev pub named : Option ℕ → Option ℕ → Option value.Value
named (Some f) class = Some (Func f)
named None (Some c) = Some (Class c)
named None None = None

-- a number from 0 on
abbrev pub integer_of : List ℕ → Option value.Value
integer_of word = option_map (λ n. Int (pos n)) (number_below (2 ^ 31) word)

-- `none`, a number from 0 on, a function or a class
abbrev pub worded : ScriptParts → List ℕ → Option value.Value
worded s word =
    if bytes_eq word words.none_word
    then Some Nothing
    else if list_all is_digit word
    then integer_of word
    else named (place_of word s.funcs) (place_of word s.classes)

-- a text, after its first double quote
abbrev pub quoted_at : ScriptParts → Reader value.Value
quoted_at s = made Text (before (name_at s.names) (codes "\""))

-- an object, after its `#`
abbrev pub numbered_object_at : Reader value.Value
numbered_object_at = made Obj (number_at widths.objects)

abbrev pub static_at : ScriptParts → Reader value.Value
static_at s = made Static (name_at s.funcs)

abbrev pub classm_at : ScriptParts → Reader value.Value
classm_at s = made ClassM (name_at s.funcs)

-- values that begin with a byte that no name has
abbrev pub marked_rows : ScriptParts → List (Row value.Value)
marked_rows s =
    (codes "\"", quoted_at s) ∷ (codes "#", numbered_object_at) ∷ (codes "-", negative_at) ∷ []

-- functions that are wrapped
abbrev pub wrapped_rows : ScriptParts → List (Row value.Value)
wrapped_rows s =
    (words.static_word, static_at s) ∷ (words.classm_word, classm_at s) ∷ (words.prop_word, made Prop (property_at s))
    ∷ []

unfoldable pub value_at : ScriptParts → Reader value.Value
value_at s = λ text.
    if begins_run text
    then if begins_with bytes.colon (past_run text)
    then choice (wrapped_rows s) text
    else option_map (λ v. (v, past_run text)) (worded s (run text))
    else choice (marked_rows s) text

-- a value, with a blank before it
abbrev pub value_item_at : ScriptParts → Reader value.Value
value_item_at s = after (codes " ") (value_at s)
