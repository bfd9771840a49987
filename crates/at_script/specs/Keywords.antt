-- The words with which a line of a script may begin.
use Rattle.std.specs.Prelude.{ℕ, ◌==◌, List, [], ◌∷◌, length, Option, codes, bytes_eq}
use Rattle.std.specs.Option.{option_map}
use Rattle.std.specs.List.{find, filter}
use Rattle.at_script.specs.declared.keyword.Keyword.{Keyword}
use Rattle.at_script.specs.declared.keyword.Keyword.TheVariants as keywords

abbrev pub all_keywords : List (List ℕ × Keyword)
all_keywords =
    (codes "attrs", keywords.Attrs) ∷ (codes "budget", keywords.Budget) ∷ (codes "func", keywords.Func) ∷ (codes "main", keywords.Main)
    ∷ (codes "thread", keywords.Thread) ∷ (codes "finally", keywords.Finally) ∷ (codes "end", keywords.End)
    ∷ (codes "class", keywords.Class) ∷ (codes "bases", keywords.Bases) ∷ (codes "put", keywords.Put) ∷ (codes "cut", keywords.Cut)
    ∷ (codes "new", keywords.New) ∷ (codes "set", keywords.Set) ∷ (codes "del", keywords.Del) ∷ (codes "get", keywords.Get)
    ∷ (codes "turn", keywords.Turn) ∷ (codes "share", keywords.Share) ∷ (codes "super", keywords.Super)
    ∷ (codes "special", keywords.Special) ∷ (codes "classof", keywords.ClassOf) ∷ (codes "mro", keywords.Mro)
    ∷ (codes "call", keywords.Call) ∷ (codes "callsuper", keywords.CallSuper) ∷ (codes "let", keywords.Let)
    ∷ (codes "return", keywords.Return) ∷ (codes "begin", keywords.Begin) ∷ (codes "finish", keywords.Finish)
    ∷ (codes "checkpoint", keywords.Checkpoint) ∷ []

-- the keyword that a word is, of these
abbrev pub named : List ℕ → List (List ℕ × Keyword) → Option Keyword
named word rows = option_map (λ row. row.1) (find (λ row. bytes_eq word row.0) rows)

-- the keyword that a word is
abbrev pub keyword_of : List ℕ → Option Keyword
keyword_of word = named word all_keywords

-- the keywords of this length
abbrev pub of_length : ℕ → List (List ℕ × Keyword)
of_length n = filter (λ row. length row.0 == n) all_keywords
