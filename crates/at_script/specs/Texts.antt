-- The texts that a script numbers, and what an identifier stands for.
use Rattle.std.specs.Prelude.{ℕ, ◌&&◌, List, [], ◌∷◌, ◌++◌, Option, Some, None, is_some, if◌then◌else◌, codes, bytes_eq}
use Rattle.std.specs.List.{filter_map, position_or_len}
use Rattle.at_name.specs.Texts.{place_of, special_texts}
use Rattle.at_script.specs.Lines.{words_in}
use Rattle.at_script.specs.Words.{is_identifier, is_free}

-- Each is known by its place. Classes and functions are those that the whole text declares; the names of attributes and
-- the texts, and the variables, are those of the lines so far.
pub record Texts : Type 0 where
  pub classes : List (List ℕ)
  pub funcs : List (List ℕ)
  pub names : List (List ℕ)
  pub vars : List (List ℕ)

-- the texts with one more at the end, unless it is there
abbrev pub with_text : List (List ℕ) → List ℕ → List (List ℕ)
with_text texts text = if is_some (place_of text texts) then texts else texts ++ text ∷ []

-- the texts with all of these, as they first stand
abbrev pub with_texts : List (List ℕ) → List (List ℕ) → List (List ℕ)
with_texts texts [] = texts
with_texts texts (text ∷ more) = with_texts (with_text texts text) more

-- the number of a text that is there
abbrev pub number_in : List (List ℕ) → List ℕ → ℕ
number_in texts text = position_or_len (bytes_eq text) texts

-- an identifier that a line may declare, whatever else stands after it
abbrev pub declared_name : List (List ℕ) → Option (List ℕ)
declared_name [] = None
declared_name (name ∷ rest) = if is_identifier name && is_free name then Some name else None

-- what a line of these words declares, where this is its keyword
abbrev pub declared_by : List ℕ → List (List ℕ) → Option (List ℕ)
declared_by keyword [] = None
declared_by keyword (word ∷ words) = if bytes_eq word keyword then declared_name words else None

-- what the lines declare with a keyword
abbrev pub declared_in : List ℕ → List (List ℕ) → List (List ℕ)
declared_in keyword lines = filter_map (λ line. declared_by keyword (words_in line)) lines

-- The texts before the first line. Every script has the class `object` and the special names that attribute access looks
-- up; a declaration serves the lines before it too.
abbrev pub texts_of : List (List ℕ) → Texts
texts_of lines = record {
  classes = with_texts (codes "object" ∷ []) (declared_in (codes "class") lines);
  funcs = with_texts [] (declared_in (codes "func") lines);
  names = special_texts;
  vars = [];
}

-- An identifier is a function where a line `func` declares it, else a class where a line `class` does, else a variable.
pub data Meaning : Type 0 where
  function : ℕ → Meaning
  class : ℕ → Meaning
  variable : Meaning

abbrev pub meaning_by : Option ℕ → Option ℕ → Meaning
meaning_by (Some number) declared = function number
meaning_by None (Some number) = class number
meaning_by None None = variable

abbrev pub meaning_of : Texts → List ℕ → Meaning
meaning_of t word = meaning_by (place_of word t.funcs) (place_of word t.classes)
