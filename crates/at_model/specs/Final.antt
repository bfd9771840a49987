-- The final namespaces: what a transcript tells of a world at its end.
use Rattle.std.specs.Prelude.{ℕ, suc, List, [], ◌∷◌, map, Option, Some, None}
use Rattle.at_model.specs.declared.last.ClassEnd.{ClassEnd}
use Rattle.at_model.specs.declared.last.ObjEnd.{ObjEnd}
use Rattle.at_model.specs.declared.last.Final as final
use Rattle.at_model.specs.declared.rows.ClassRow.{ClassRow}
use Rattle.at_model.specs.declared.rows.Object.{Object}
use Rattle.at_model.specs.World.{World, order_of}
use Rattle.at_model.specs.Attributes.{dict_of}

abbrev pub order_or_empty : Option (List ℕ) → List ℕ
order_or_empty None = []
order_or_empty (Some order) = order

-- the classes that are made, from this number on: their orders and own names
abbrev pub class_ends : World → ℕ → List (Option ClassRow) → List ClassEnd
class_ends w c [] = []
class_ends w c (None ∷ rows) = class_ends w (suc c) rows
class_ends w c (Some row ∷ rows) = record { class = c; order = order_or_empty (order_of w c); own = row.own } ∷ class_ends w (suc c) rows

-- the class and the names of an object
abbrev pub object_end : World → Object → ObjEnd
object_end w object = record { class = object.class; own = dict_of w object }

-- the order and own names of each class that is made, and the class and names of each object, by rising number
abbrev pub final_of : World → final.Final
final_of w = record { classes = class_ends w 0 w.classes; objects = map (object_end w) w.objects }
