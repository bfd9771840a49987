-- The laws of histories and of legal lines.
use Rattle.std.specs.Prelude.{ℕ, ◌≡◌, ◌↔◌, List, [], length, map, All}
use Rattle.at_value.specs.declared.limits.Limits.{Limits}
use Rattle.at_value.specs.declared.operation.Op as op
use Rattle.at_line.specs.declared.line.Line.{Line}
use Rattle.at_model.specs.World.{World}
use Rattle.at_model.specs.History.{IsProper}
use Rattle.at_line.specs.Lines.{EachAfter, what_of, write_count, IsHistory}
use Rattle.at_line.specs.Legal.{IsLinearized, IsKeptAlone, IsInTurn, AreInTurn, AreWritesPlaced}
use Rattle.at_line.specs.Kept.{IsKept}
use Rattle.at_line.specs.Serial.{IsSerial, NamesNoLimit, AreInOrder, AreByThread}

-- lines have one history
abbrev pub HistoriesAreUnique : Type 0
HistoriesAreUnique = (lines : List Line) (first second : List op.Op) → IsHistory lines first → IsHistory lines second → first ≡ second

-- it is as long as there are writes
abbrev pub HistoriesCountWrites : Type 0
HistoriesCountWrites = (lines : List Line) (history : List op.Op) → IsHistory lines history → length history ≡ write_count lines

-- they have one exactly where each write has a place of its own, from 1 up to their count
abbrev pub PlacedWritesAreHistories : Type 0
PlacedWritesAreHistories = (lines : List Line) → AreWritesPlaced lines ↔ ((history : List op.Op) × IsHistory lines history)

-- the history of a linearized list is proper
abbrev pub LegalHistoriesAreProper : Type 0
LegalHistoriesAreProper = (opened : World) (limits : Limits) (history : List op.Op) (lines : List Line) → IsLinearized opened limits history lines → IsProper opened history

-- Lines of threads in their order, each at the end of the history so far, are linearized under any limits, where none names
-- a limit and the sections of a thread that runs alone are kept. Their history is what they lead to.
abbrev pub SerialLinesAreLinearized : Type 0
SerialLinesAreLinearized =
    (opened : World) (limits : Limits) (lines : List Line) (history : List op.Op) → AreInOrder lines → IsSerial opened [] (map what_of lines) history
    → All (λ (line : Line). NamesNoLimit line.what) lines → All (λ (line : Line). IsKeptAlone line.thread line.what) lines
    → IsLinearized opened limits history lines

-- and the other way round: linearized lines of one thread were done one after another, each at the end of the history so far
abbrev pub OneThreadIsSerial : Type 0
OneThreadIsSerial =
    (opened : World) (limits : Limits) (thread : ℕ) (lines : List Line) (history : List op.Op) → IsLinearized opened limits history lines
    → All (λ (line : Line). line.thread ≡ thread) lines → IsSerial opened [] (map what_of lines) history

-- the lines of one thread are in order
abbrev pub OneThreadIsInOrder : Type 0
OneThreadIsInOrder = (thread : ℕ) (lines : List Line) → All (λ (line : Line). line.thread ≡ thread) lines → AreInOrder lines

-- the sections of lines of one thread are kept: no other thread writes
abbrev pub OneThreadIsKept : Type 0
OneThreadIsKept =
    (opened : World) (thread : ℕ) (lines : List Line) (history : List op.Op) → All (λ (line : Line). line.thread ≡ thread) lines → IsKept opened history lines

-- where the threads stand in order, lines are in turn exactly where each is after those before it
abbrev pub TurnsAreByLine : Type 0
TurnsAreByLine = (lines : List Line) → AreInOrder lines → AreInTurn lines ↔ EachAfter IsInTurn lines

-- where the lines of each thread stand together, each line at the end of the history so far, all sections are kept
abbrev pub SerialLinesAreKept : Type 0
SerialLinesAreKept = (opened : World) (lines : List Line) (history : List op.Op) → AreByThread lines → IsSerial opened [] (map what_of lines) history → IsKept opened history lines
