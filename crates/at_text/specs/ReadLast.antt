-- private: no public clause cites it. Final namespaces and whole transcripts, as they are read.
use Rattle.std.specs.Prelude.{ℕ, ◌^◌, nat_le, List, [], ◌∷◌, length, take, drop, Option, Some, None, if◌then◌else◌, codes}
use Rattle.at_value.specs.Pairs.{with_value}
use Rattle.at_value.specs.Types.{Value}
use Rattle.at_model.specs.declared.last.ClassEnd.{ClassEnd}
use Rattle.at_model.specs.declared.last.ObjEnd.{ObjEnd}
use Rattle.at_model.specs.declared.last.Final.{Final}
use Rattle.at_line.specs.Types.{Line}
use Rattle.at_script.specs.Bytes as bytes
use Rattle.at_script.specs.Parts.{ScriptParts}
use Rattle.at_script.specs.Literals.{◌>>=◌}
use Rattle.at_script.specs.Script.{script_of}
use Rattle.at_text.specs.Words as words
use Rattle.at_text.specs.Values.{object_text}
use Rattle.at_text.specs.Readers.{Reader, made, both, after, before, begins_with, number_at, name_at, counted, numbered}
use Rattle.at_text.specs.ReadValues.{class_item_at, classes_at, value_item_at}
use Rattle.at_text.specs.ReadLines.{line_at}

-- a name and its value: `.x V`
abbrev pub pair_at : ScriptParts → Reader (ℕ × Value)
pair_at s = before (both (after (codes ".") (name_at s.names)) (value_item_at s)) (codes "\n")

-- the pairs by the numbers of their names
abbrev pub by_number : List (ℕ × Value) → List (ℕ × Value)
by_number [] = []
by_number (pair ∷ pairs) = with_value pair.0 pair.1 (by_number pairs)

-- own names, which stand by their bytes
unfoldable pub own_at : ScriptParts → Reader (List (ℕ × Value))
own_at s = made by_number (numbered (begins_with bytes.dot) (λ _. pair_at s))

abbrev pub class_end : (ℕ × List ℕ) × List (ℕ × Value) → ClassEnd
class_end p = record { class = p.0.0; order = p.0.1; own = p.1 }

unfoldable pub class_end_at : ScriptParts → Reader ClassEnd
class_end_at s =
    made class_end (both (before (both (before (after words.class_word (name_at s.classes)) (codes " =")) (classes_at s)) (codes "\n")) (own_at s))

abbrev pub object_end : ℕ × List (ℕ × Value) → ObjEnd
object_end p = record { class = p.0; own = p.1 }

-- the object of this number
unfoldable pub object_end_at : ScriptParts → ℕ → Reader ObjEnd
object_end_at s o =
    made object_end (both (before (after words.object_word (after (object_text o) (class_item_at s))) (codes "\n")) (own_at s))

abbrev pub final_of : List ClassEnd × List ObjEnd → Final
final_of p = record { classes = p.0; objects = p.1 }

unfoldable pub final_at : ScriptParts → Reader Final
final_at s =
    made final_of (before (both (after words.final_word (numbered (begins_with 99) (λ _. class_end_at s))) (numbered (begins_with 111) (object_end_at s))) words.end_word)

-- so many lines
abbrev pub lines_at : ScriptParts → Reader (List Line)
lines_at s = λ text. before (after words.lines_word (number_at (2 ^ 64))) (codes "\n") text >>= (λ count. counted count.0 (line_at s) count.1)

-- so many bytes
abbrev pub bytes_at : ℕ → Reader (List ℕ)
bytes_at n = λ text. if nat_le n (length text) then Some (take n text, drop n text) else None

-- the bytes of the script
abbrev pub script_at : Reader (List ℕ)
script_at = λ text. before (after words.header_word (number_at (2 ^ 64))) (codes "\n") text >>= (λ count. before (bytes_at count.0) (codes "\n") count.1)

-- the script, the lines and the final namespaces, where nothing follows
abbrev pub whole : List ℕ → (List Line × Final) × List ℕ → Option (List ℕ × (List Line × Final))
whole script (parts, []) = Some (script, parts)
whole script (parts, byte ∷ text) = None

abbrev pub run_in : List ℕ × List ℕ → ScriptParts → Option (List ℕ × (List Line × Final))
run_in script s = both (lines_at s) (final_at s) script.1 >>= whole script.0

-- the run whose text this is
abbrev pub run_of : List ℕ → Option (List ℕ × (List Line × Final))
run_of text = script_at text >>= (λ script. script_of script.0 >>= run_in script)
