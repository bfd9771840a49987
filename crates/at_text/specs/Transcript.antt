-- The text of a transcript:
--
--     attrs transcript 1
--     script N
--     (the N bytes of the script)
--     lines N
--     (N lines)
--     final
--     (the classes that were made, and the objects)
--     end
use Rattle.std.specs.Prelude.{ℕ, List, ◌++◌, length, codes, decimal}
use Rattle.std.specs.List.{flat_map}
use Rattle.at_line.specs.declared.line.Line.{Line}
use Rattle.at_model.specs.declared.last.Final.{Final}
use Rattle.at_script.specs.Parts.{ScriptParts}
use Rattle.at_text.specs.Words as words
use Rattle.at_text.specs.Lines.{line_text}
use Rattle.at_text.specs.Last.{class_end_text, object_ends_text}

-- the header, and the bytes of the script
abbrev pub script_text : List ℕ → List ℕ
script_text script = words.header_word ++ decimal (length script) ++ codes "\n" ++ script ++ codes "\n"

-- the lines, after their number
abbrev pub lines_text : ScriptParts → List Line → List ℕ
lines_text s lines = words.lines_word ++ decimal (length lines) ++ codes "\n" ++ flat_map (line_text s) lines

-- the final namespaces
abbrev pub final_text : ScriptParts → Final → List ℕ
final_text s last = words.final_word ++ flat_map (class_end_text s) last.classes ++ object_ends_text s 0 last.objects ++ words.end_word

-- The whole text. The names are those of the script; one that the script doesn't have is written as nothing. The
-- domain on which it is one to one is `IsPrintable`.
abbrev pub text : List ℕ → ScriptParts → List Line → Final → List ℕ
text script s lines last = script_text script ++ lines_text s lines ++ final_text s last
