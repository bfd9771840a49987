-- The laws of executions.
use Rattle.std.specs.Prelude.{◌≡◌, ℕ, suc, ◌+◌, ◌*◌, ◌≤◌, List, [], ◌∷◌, ◌++◌, length, slice_get, Some}
use Rattle.at_value.specs.declared.reply.Place.{Place}
use Rattle.at_value.specs.declared.reply.Path as path
use Rattle.at_line.specs.declared.line.Line.{Line}
use Rattle.at_line.specs.declared.line.LineReply as line_reply
use Rattle.at_line.specs.declared.line.Local as local
use Rattle.at_line.specs.declared.line.Local.TheVariants as locals
use Rattle.at_line.specs.declared.line.What as what
use Rattle.at_line.specs.declared.line.What.TheVariants as whats
use Rattle.at_line.specs.Lines.{lines_of_thread}
use Rattle.at_line.specs.Serial.{NamesNoLimit}
use Rattle.at_script.specs.declared.stmt.Stmt as stmt
use Rattle.at_script.specs.Parts.{ScriptParts}
use Rattle.at_thread.specs.Execution.{Variables, ThreadState, says, start, next_of}
use Rattle.at_thread.specs.Executions.{IsExecution}
use Rattle.at_thread.specs.Runs.{IsRunOf}

-- What of a line the script doesn't determine: the place, the path and the reply of an operation, or that the history has
-- no room or a head can't be written any more.
pub data Told : Type 0 where
  replied : Place → path.Path → line_reply.LineReply → Told
  declined : local.Local → Told

abbrev pub told_by : what.What → List Told
told_by (whats.Did place way operation reply) = replied place way reply ∷ []
told_by (whats.Local (locals.Full place)) = declined (locals.Full place) ∷ []
told_by (whats.Local (locals.Worn sequence)) = declined (locals.Worn sequence) ∷ []
told_by (whats.Local locals.Depth) = []
told_by (whats.Local locals.Budget) = []
told_by (whats.Local locals.Kind) = []
told_by (whats.Local (locals.Unbound a)) = []
told_by (whats.Local locals.NotCallable) = []

abbrev pub all_told : List what.What → List Told
all_told [] = []
all_told (w ∷ more) = told_by w ++ all_told more

-- two executions from one state that are told the same are the same
abbrev pub RepliesDetermineExecutions : Type 0
RepliesDetermineExecutions =
    (s : ScriptParts) (begin first_end second_end : ThreadState) (first second : List what.What)
    → IsExecution s begin first first_end → IsExecution s begin second second_end
    → all_told first ≡ all_told second → (first ≡ second) × (first_end ≡ second_end)

-- an execution of a block has at most two lines a statement begun and one more, and begins at most as many statements as
-- the script allows
abbrev pub ExecutionsAreShort : Type 0
ExecutionsAreShort =
    (s : ScriptParts) (block : List stmt.Stmt) (variables : Variables) (lines : List what.What) (end : ThreadState)
    → IsExecution s (start block variables) lines end → (length lines ≤ 2 * end.begun + 1) × (end.begun ≤ s.budget)

-- in a run of a script the lines of each thread, in the order in which they stand, have the numbers 1, 2 and so on
abbrev pub NumbersHaveNoGap : Type 0
NumbersHaveNoGap =
    (s : ScriptParts) (lines : List Line) → IsRunOf s lines → (thread i : ℕ) (line : Line) → slice_get (lines_of_thread thread lines) i ≡ Some line
    → line.number ≡ suc i

-- a line that a state demands by itself names no limit
abbrev pub OwnLinesNameNoLimit : Type 0
OwnLinesNameNoLimit =
    (s : ScriptParts) (before after : ThreadState) (l : local.Local) → next_of s before ≡ says l after → NamesNoLimit (whats.Local l)
