-- The laws of runs.
use Rattle.std.specs.Prelude.{◌≡◌, ◌≤◌, List, [], length, map, All, None}
use Rattle.at_model.specs.declared.last.Final as final
use Rattle.at_line.specs.declared.line.Line.{Line}
use Rattle.at_line.specs.Legal.{IsLinearized}
use Rattle.at_line.specs.Kept.{IsKept}
use Rattle.at_script.specs.Limits.{most_threads}
use Rattle.at_line.specs.Lines.{main_thread, what_of}
use Rattle.at_event.specs.Events.{EventState, Event, first_state, IsEventRun}
use Rattle.at_event.specs.OneView.{IsDoneBy, operations_in}
use Rattle.at_script.specs.Limits as limits
use Rattle.at_script.specs.Parts.{ScriptParts}
use Rattle.at_run.specs.Opening.{opening_of, limits_of}
use Rattle.at_run.specs.LegalRun.{IsLegalRun}
use Rattle.at_run.specs.PlainRun.{line_under_locks, IsSerialRun, IsPlainRun}

-- The operations of a serial run are what reads and writes of one view say, from the first state to one with the run's
-- history. So what is true of every list of events is true of them.
abbrev pub SerialRunsAreEvents : Type 0
SerialRunsAreEvents =
    (s : ScriptParts) (lines : List Line) (ends : final.Final) (run : IsSerialRun s lines ends)
    → (events : List Event) × (last : EventState) × IsEventRun (opening_of s) first_state events (operations_in (map what_of lines)) last
    × All (IsDoneBy main_thread) events × (last.history ≡ run.history)

-- two serial runs of a script are the same, paths aside
abbrev pub SerialRunsAreOne : Type 0
SerialRunsAreOne =
    (s : ScriptParts) (first second : List Line) (first_ends second_ends : final.Final) → IsSerialRun s first first_ends → IsSerialRun s second second_ends
    → (map line_under_locks first ≡ map line_under_locks second) × (first_ends ≡ second_ends)

-- two plain runs of a script are the same: the script determines the transcript
abbrev pub PlainRunsAreOne : Type 0
PlainRunsAreOne =
    (s : ScriptParts) (first second : List Line) (first_ends second_ends : final.Final) → IsPlainRun s first first_ends → IsPlainRun s second second_ends
    → (first ≡ second) × (first_ends ≡ second_ends)

-- a serial run of a script with no more threads than there may be is linearized, and its sections are kept
abbrev pub SerialRunsAreLinearized : Type 0
SerialRunsAreLinearized =
    (s : ScriptParts) (lines : List Line) (ends : final.Final) (run : IsSerialRun s lines ends) → length s.threads ≤ most_threads
    → IsLinearized (opening_of s) (limits_of s) run.history lines × IsKept (opening_of s) run.history lines

-- a legal run of a script of one block is its plain run, paths aside
abbrev pub LegalRunsOfOneBlockAreSerial : Type 0
LegalRunsOfOneBlockAreSerial =
    (s : ScriptParts) (lines : List Line) (ends : final.Final) → s.threads ≡ [] → s.finally ≡ None → s.budget ≤ limits.most_budget → IsLegalRun s lines ends → IsSerialRun s lines ends
