-- How names and values are written: in the words of the script that names them.
use Rattle.std.specs.Prelude.{ℕ, List, [], ◌++◌, Option, Some, None, unwrap_or, slice_get, codes, decimal}
use Rattle.std.specs.List.{flat_map}
use Rattle.std.specs.Fmt.{signed_decimal}
use Rattle.at_value.specs.Parts.{PropertyParts}
use Rattle.at_value.specs.declared.value.Value as value
use Rattle.at_value.specs.declared.value.Value.TheVariants.{Nothing, Int, Text, Func, Prop, Static, ClassM, Class, Obj}
use Rattle.at_script.specs.Parts.{ScriptParts}
use Rattle.at_text.specs.Words as words

-- the text of a number, and nothing where there is none
abbrev pub text_at : List (List ℕ) → ℕ → List ℕ
text_at texts n = unwrap_or (slice_get texts n) []

-- an object: `#N`
abbrev pub object_text : ℕ → List ℕ
object_text o = codes "#" ++ decimal o

-- an attribute of an object: `#N.x`
abbrev pub object_attribute : ScriptParts → ℕ → ℕ → List ℕ
object_attribute s o x = object_text o ++ codes "." ++ text_at s.names x

-- an attribute of a class: `C.x`
abbrev pub class_attribute : ScriptParts → ℕ → ℕ → List ℕ
class_attribute s c x = text_at s.classes c ++ codes "." ++ text_at s.names x

-- a class, with a blank before it
abbrev pub class_item : ScriptParts → ℕ → List ℕ
class_item s c = codes " " ++ text_at s.classes c

-- the class, where there is one
abbrev pub class_item_at : ScriptParts → Option ℕ → List ℕ
class_item_at s None = []
class_item_at s (Some c) = class_item s c

-- each class, with a blank before it
abbrev pub classes_text : ScriptParts → List ℕ → List ℕ
classes_text s classes = flat_map (class_item s) classes

-- a part of a property: its function, or `-`
abbrev pub part_text : ScriptParts → Option ℕ → List ℕ
part_text s None = codes "-"
part_text s (Some f) = text_at s.funcs f

-- a property: its getter, setter and deleter
abbrev pub property_text : ScriptParts → PropertyParts → List ℕ
property_text s p = words.prop_word ++ part_text s p.get ++ codes "," ++ part_text s p.set ++ codes "," ++ part_text s p.del

-- A value, as scripts write it; an object, which none writes, is `#N`.
abbrev pub value_text : ScriptParts → value.Value → List ℕ
value_text s Nothing = words.none_word
value_text s (Int z) = signed_decimal z
value_text s (Text x) = codes "\"" ++ text_at s.names x ++ codes "\""
value_text s (Func f) = text_at s.funcs f
value_text s (Prop p) = property_text s p
value_text s (Static f) = words.static_word ++ text_at s.funcs f
value_text s (ClassM f) = words.classm_word ++ text_at s.funcs f
value_text s (Class c) = text_at s.classes c
value_text s (Obj o) = object_text o

-- a value, with a blank before it
abbrev pub value_item : ScriptParts → value.Value → List ℕ
value_item s v = codes " " ++ value_text s v
