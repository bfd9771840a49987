-- Lines that one view alone brought about.
use Rattle.std.specs.Prelude.{ℕ, ◌≡◌, Bool, true, false, List, [], ◌∷◌, ◌++◌, All, if◌then◌else◌}
use Rattle.at_value.specs.declared.limits.Limits.{Limits}
use Rattle.at_value.specs.declared.operation.Op as op
use Rattle.at_line.specs.declared.line.Line.{Line}
use Rattle.at_line.specs.declared.line.LineOp.TheVariants as line_ops
use Rattle.at_line.specs.declared.line.What as what
use Rattle.at_line.specs.declared.line.What.TheVariants as whats
use Rattle.at_line.specs.Lines.{main_thread}
use Rattle.at_model.specs.World.{World}
use Rattle.at_line.specs.Legal.{IsLinearized}
use Rattle.at_line.specs.Serial.{IsSerial, NamesNoLimit}
use Rattle.at_event.specs.Events.{EventState, Event, split, join, read, write, first_state, IsEventRun, AreLinesOf}

abbrev pub has_place : what.What → Bool
has_place (whats.Did place path operation reply) = true
has_place (whats.Local local) = false

-- the lines that did something, without the local ones
abbrev pub placed : List Line → List Line
placed [] = []
placed (line ∷ lines) = if has_place line.what then line ∷ placed lines else placed lines

-- a read or a write of this view
abbrev pub IsDoneBy : ℕ → Event → Type 0
IsDoneBy v (split u) = ⊥
IsDoneBy v (join u other) = ⊥
IsDoneBy v (read u operation way) = u ≡ v
IsDoneBy v (write u operation way) = u ≡ v

-- These lines are all of `main`, and reads and writes of the first view brought them about, from the first state to one
-- with this history; between them stand local lines, none of which names a limit.
pub record IsOneViewRun (opened : World) (lines : List Line) (history : List op.Op) : Type 0 where
  pub events : List Event
  pub said : List (ℕ × what.What)
  pub last : EventState
  pub run : IsEventRun opened first_state events said last
  pub alone : All (IsDoneBy main_thread) events
  pub leads : last.history ≡ history
  pub lines_are : AreLinesOf said (placed lines)
  pub of_main : All (λ (line : Line). line.thread ≡ main_thread) lines
  pub no_limit : All (λ (line : Line). NamesNoLimit line.what) lines

-- such lines are linearized under any limits, and the history is theirs
abbrev pub OneViewRunsAreLinearized : Type 0
OneViewRunsAreLinearized =
    (opened : World) (limits : Limits) (lines : List Line) (history : List op.Op) → IsOneViewRun opened lines history
    → IsLinearized opened limits history lines

-- what lines say of operations of the data model, as the first view's; the begin and the end of a section are no such
-- operations
abbrev pub operation_in : what.What → List (ℕ × what.What)
operation_in (whats.Did place path (line_ops.Of operation) reply) = (main_thread, whats.Did place path (line_ops.Of operation) reply) ∷ []
operation_in (whats.Did place path (line_ops.Begin first second) reply) = []
operation_in (whats.Did place path line_ops.Finish reply) = []
operation_in (whats.Local local) = []

abbrev pub operations_in : List what.What → List (ℕ × what.What)
operations_in [] = []
operations_in (w ∷ says) = operation_in w ++ operations_in says

-- What is said one after another, each at the end of the history so far, is what reads and writes of one view say, by
-- whatever paths, which lead to that history.
abbrev pub SerialLinesAreEvents : Type 0
SerialLinesAreEvents =
    (opened : World) (says : List what.What) (history : List op.Op) → IsSerial opened [] says history
    → (events : List Event) × (last : EventState) × IsEventRun opened first_state events (operations_in says) last × All (IsDoneBy main_thread) events × (last.history ≡ history)
