-- The lines that their texts tell whole.
use Rattle.std.specs.Prelude.{ℕ, ◌≡◌, ◌≤◌, List, ◌++◌}
use Rattle.at_line.specs.Lines.{finally_thread}
use Rattle.at_line.specs.Types.{Line}
use Rattle.at_script.specs.Parts.{ScriptParts}
use Rattle.at_text.specs.Bare.{bare_line}
use Rattle.at_text.specs.Lines.{line_text}
use Rattle.at_text.specs.Printable.{IsShort, HasWhat}

-- The script has what the line names, its thread and its number are in their ranges, and its miss carries 0 in the place of
-- each number that was loaded.
pub record IsTold (s : ScriptParts) (line : Line) : Type 0 where
  pub thread : line.thread ≤ finally_thread
  pub number : IsShort line.number
  pub has : HasWhat s line.what
  pub bare : bare_line line ≡ line

-- such a line stands at the front of the text, and this follows it
abbrev pub IsAtFront : ScriptParts → List ℕ → Line → List ℕ → Type 0
IsAtFront s whole line rest = IsTold s line × (whole ≡ line_text s line ++ rest)

-- no such line stands at the front
abbrev pub HasNoneAtFront : ScriptParts → List ℕ → Type 0
HasNoneAtFront s whole = (line : Line) (rest : List ℕ) → ¬ IsAtFront s whole line rest
