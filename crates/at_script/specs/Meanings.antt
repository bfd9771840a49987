-- private: about the reader's own types; no public clause cites it. What an identifier is numbered as.
use Rattle.std.specs.Prelude.{ℕ, min, List, Option, Some, None}
use Rattle.std.specs.Option.{option_map}
use Rattle.std.specs.Borrow.{Bor}
use Rattle.at_value.specs.Widths as widths
use Rattle.at_name.specs.Texts.{place_of}
use Rattle.at_script.specs.declared.meaning.Meaning.{Meaning}

abbrev pub now_of : Bor (List ℕ) → List ℕ
now_of text = text.now

-- Past the last class or function that there may be, each has the number of the first that is one too many.

abbrev pub class_number : ℕ → ℕ
class_number number = min number widths.classes

abbrev pub func_number : ℕ → ℕ
func_number number = min number widths.functions

-- by its places in the lists of classes, functions, variables and names
abbrev pub meaning_among : List (List ℕ) → List (List ℕ) → List (List ℕ) → List (List ℕ) → List ℕ → Meaning
meaning_among classes funcs vars names word = record {
  class = option_map class_number (place_of word classes);
  func = option_map func_number (place_of word funcs);
  var = place_of word vars;
  name = place_of word names;
}

abbrev pub meaning_or_none : Option Meaning → Meaning
meaning_or_none None = record { class = None; func = None; var = None; name = None }
meaning_or_none (Some meaning) = meaning
