-- How the final namespaces are written.
use Rattle.std.specs.Prelude.{ℕ, ◌+◌, List, [], ◌∷◌, ◌++◌, if◌then◌else◌, codes}
use Rattle.std.specs.List.{flat_map}
use Rattle.std.specs.Ordering.{nat_cmp, is_lt}
use Rattle.std.specs.Cmp.Lexicographic.{slice_cmp}
use Rattle.at_value.specs.declared.value.Value.{Value}
use Rattle.at_model.specs.declared.last.ClassEnd.{ClassEnd}
use Rattle.at_model.specs.declared.last.ObjEnd.{ObjEnd}
use Rattle.at_script.specs.Parts.{ScriptParts}
use Rattle.at_text.specs.Words as words
use Rattle.at_text.specs.Values.{text_at, object_text, class_item, classes_text, value_item}

-- the pairs with one more, before the first whose name isn't less by bytes
abbrev pub inserted : ScriptParts → ℕ × Value → List (ℕ × Value) → List (ℕ × Value)
inserted s pair [] = pair ∷ []
inserted s pair (next ∷ rest) =
    if is_lt (slice_cmp nat_cmp (text_at s.names next.0) (text_at s.names pair.0))
    then next ∷ inserted s pair rest
    else pair ∷ next ∷ rest

-- The pairs, sorted by the bytes of their names. Pairs whose names have the same bytes, as names that the script doesn't
-- have, stay in their order.
abbrev pub by_bytes : ScriptParts → List (ℕ × Value) → List (ℕ × Value)
by_bytes s [] = []
by_bytes s (pair ∷ pairs) = inserted s pair (by_bytes s pairs)

-- a name and its value: `.x V`
abbrev pub pair_text : ScriptParts → ℕ × Value → List ℕ
pair_text s pair = codes "." ++ text_at s.names pair.0 ++ value_item s pair.1 ++ codes "\n"

-- the own names of a class or an object, by bytes
abbrev pub own_text : ScriptParts → List (ℕ × Value) → List ℕ
own_text s own = flat_map (pair_text s) (by_bytes s own)

-- a class: its order and its own names
abbrev pub class_end_text : ScriptParts → ClassEnd → List ℕ
class_end_text s end = words.class_word ++ text_at s.classes end.class ++ codes " =" ++ classes_text s end.order ++ codes "\n" ++ own_text s end.own

-- an object: its class and its names
abbrev pub object_end_text : ScriptParts → ℕ → ObjEnd → List ℕ
object_end_text s o end = words.object_word ++ object_text o ++ class_item s end.class ++ codes "\n" ++ own_text s end.own

-- the objects, from this number on
abbrev pub object_ends_text : ScriptParts → ℕ → List ObjEnd → List ℕ
object_ends_text s o [] = []
object_ends_text s o (end ∷ ends) = object_end_text s o end ++ object_ends_text s (o + 1) ends
