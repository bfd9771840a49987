-- private: no public clause cites it. How an index of texts is built.
use Rattle.std.specs.Prelude.{ℕ, ◌≡◌, List, Option, Some, None}
use Rattle.at_name.specs.Texts.{interned}
use Rattle.at_script.specs.Laws.{AreToldApart}
use Rattle.at_script.specs.Parts.{ScriptParts}

-- the texts with one that was put in, where there was room
abbrev pub texts_in : List (List ℕ) → Option (ℕ × List (List ℕ)) → List (List ℕ)
texts_in texts None = texts
texts_in texts (Some found) = found.1

-- the texts with this one, where there is one
abbrev pub added : ℕ → Option (List ℕ) → List (List ℕ) → List (List ℕ)
added most None texts = texts
added most (Some text) texts = texts_in texts (interned most text texts)

-- the texts of a script, which are told apart
pub record AreIndexed (s : ScriptParts) (n c f v : List (List ℕ)) : Type 0 where
  pub apart : AreToldApart s
  pub names : n ≡ s.names
  pub classes : c ≡ s.classes
  pub funcs : f ≡ s.funcs
  pub vars : v ≡ s.vars
