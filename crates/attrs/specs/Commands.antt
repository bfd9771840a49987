-- The words after the program's name: which command they are.
use Rattle.std.specs.Prelude.{ℕ, List, [], ◌∷◌, Option, Some, None, codes, bytes_eq, if◌then◌else◌}
use Rattle.attrs.specs.declared.words.Command.{Command}
use Rattle.attrs.specs.declared.words.Command.TheVariants as commands

-- the command of a single word
abbrev pub command_of_word : List ℕ → Option Command
command_of_word word = if bytes_eq word (codes "run") then Some commands.Run else if bytes_eq word (codes "plain") then Some commands.Plain else None

-- The command that the words are, each compared whole. Other words are none.
abbrev pub command_of : List (List ℕ) → Option Command
command_of [] = None
command_of (word ∷ []) = command_of_word word
command_of (word ∷ more ∷ words) = None
