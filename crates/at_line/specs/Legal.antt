-- Legal lists of lines: the lines of all threads are one history of writes, and each reply is that of the data model at
-- the line's place in it. A place is a count of writes: a read at place p comes after the first p writes, and a write at
-- place p is the p-th. Each part is made of a predicate of one line and the lines before or beside it, so that the first
-- line that is wrong can be named.
use Rattle.std.specs.Prelude.{ℕ, ◌≡◌, ◌≢◌, ◌<◌, ◌≤◌, ◌-◌, ◌*◌, ◌⊎◌, false, IsTrue, List, [], length, take, All}
use Rattle.at_value.specs.declared.limits.Limits.{Limits}
use Rattle.at_value.specs.declared.operation.Op as op
use Rattle.at_line.specs.declared.line.Line.{Line}
use Rattle.at_line.specs.declared.line.LineOp.TheVariants as line_ops
use Rattle.at_line.specs.declared.line.LineReply.TheVariants as line_replies
use Rattle.at_line.specs.declared.line.Local.TheVariants as locals
use Rattle.at_line.specs.declared.line.What as what
use Rattle.at_line.specs.declared.line.What.TheVariants as whats
use Rattle.at_model.specs.World.{World}
use Rattle.at_model.specs.Step.{step, is_write}
use Rattle.at_model.specs.History.{replay}
use Rattle.at_line.specs.Lines.{main_thread, finally_thread, EachAfter, is_write_reply, is_write_line, write_in, writes, write_count, operations_at, IsHistory}
use Rattle.at_line.specs.Paths.{ArePathsAllowed}

-- the world after the writes up to a place
abbrev pub world_at : World → List op.Op → ℕ → World
world_at opened history place = replay opened (take place history)

-- the world after the writes below a place, which the write at that place finds
abbrev pub world_before : World → List op.Op → ℕ → World
world_before opened history place = replay opened (take (place - 1) history)

-- The places of writes

-- the place is one from 1 up to the count, and no earlier write has it
abbrev pub IsFreePlace : ℕ → List (ℕ × op.Op) → ℕ → Type 0
IsFreePlace count earlier place = (0 < place) × (place ≤ count) × (operations_at place earlier ≡ [])

-- a write has a free place after the lines before it; the count is that of all writes
abbrev pub IsWritePlaced : ℕ → List Line → Line → Type 0
IsWritePlaced count before line = All (λ (write : ℕ × op.Op). IsFreePlace count (writes before) write.0) (write_in line.what)

-- Each write has a place of its own, from 1 up to their count. A list of lines has a history exactly where this is so.
abbrev pub AreWritesPlaced : List Line → Type 0
AreWritesPlaced lines = EachAfter (IsWritePlaced (write_count lines)) lines

-- Replies

-- a write has the reply of the data model to its operation after the writes before it, and is a write there
abbrev pub IsWriteTrue : World → List op.Op → what.What → Type 0
IsWriteTrue opened history (whats.Did place path (line_ops.Of operation) reply) =
    IsTrue (is_write_reply reply)
    → (reply ≡ line_replies.Of (step (world_before opened history place.0) operation).reply) × IsTrue (is_write (world_before opened history place.0) operation)
IsWriteTrue opened history (whats.Did place path (line_ops.Begin first second) reply) = Unit {0}
IsWriteTrue opened history (whats.Did place path line_ops.Finish reply) = Unit {0}
IsWriteTrue opened history (whats.Local local) = Unit {0}

-- A line of an operation that isn't a write stands at a place that the history has, has the reply of the data model to
-- its operation after the writes up to there, and isn't a write there. The begin and the end of a section stand at a place
-- that the history has.
abbrev pub IsReadTrue : World → List op.Op → ℕ → what.What → Type 0
IsReadTrue opened history count (whats.Did place path (line_ops.Of operation) reply) =
    is_write_reply reply ≡ false
    → (place.0 ≤ count) × (reply ≡ line_replies.Of (step (world_at opened history place.0) operation).reply) × (is_write (world_at opened history place.0) operation ≡ false)
IsReadTrue opened history count (whats.Did place path (line_ops.Begin first second) reply) = place.0 ≤ count
IsReadTrue opened history count (whats.Did place path line_ops.Finish reply) = place.0 ≤ count
IsReadTrue opened history count (whats.Local local) = Unit {0}

-- a section of `main` or of `finally` is kept: no thread runs beside these
abbrev pub IsKeptAlone : ℕ → what.What → Type 0
IsKeptAlone thread (whats.Did place path (line_ops.Of operation) reply) = Unit {0}
IsKeptAlone thread (whats.Did place path (line_ops.Begin first second) reply) = Unit {0}
IsKeptAlone thread (whats.Did place path line_ops.Finish reply) = (thread ≡ main_thread) ⊎ (thread ≡ finally_thread) → reply ≡ line_replies.Kept
IsKeptAlone thread (whats.Local local) = Unit {0}

-- Places

-- places never fall, and a write's place is above those before it
abbrev pub IsPlacedAfter : what.What → what.What → Type 0
IsPlacedAfter (whats.Did first first_path first_operation first_reply) (whats.Did second path operation reply) =
    (first.0 ≤ second.0) × (IsTrue (is_write_line (whats.Did second path operation reply)) → first.0 < second.0)
IsPlacedAfter (whats.Did first first_path first_operation first_reply) (whats.Local local) = Unit {0}
IsPlacedAfter (whats.Local local) second = Unit {0}

abbrev pub IsPlacedAfterInThread : Line → Line → Type 0
IsPlacedAfterInThread first second = first.thread ≡ second.thread → IsPlacedAfter first.what second.what

-- a line has a place after those of its thread before it
abbrev pub IsRisingAfter : List Line → Line → Type 0
IsRisingAfter before line = All (λ (first : Line). IsPlacedAfterInThread first line) before

-- the second thread runs once the first has ended: a thread of the script once `main` has, and `finally` once all have
abbrev pub RunsAfter : ℕ → ℕ → Type 0
RunsAfter first second = ((first ≡ main_thread) × (main_thread < second) × (second < finally_thread)) ⊎ ((first ≢ finally_thread) × (second ≡ finally_thread))

-- the place of the second is at least that of the first
abbrev pub IsPlacedFrom : what.What → what.What → Type 0
IsPlacedFrom (whats.Did first first_path first_operation first_reply) (whats.Did second path operation reply) = first.0 ≤ second.0
IsPlacedFrom (whats.Did first first_path first_operation first_reply) (whats.Local local) = Unit {0}
IsPlacedFrom (whats.Local local) second = Unit {0}

-- a line has a place from those of the threads on that end before its thread begins
abbrev pub IsInTurn : List Line → Line → Type 0
IsInTurn lines line = All (λ (first : Line). RunsAfter first.thread line.thread → IsPlacedFrom first.what line.what) lines

-- Limits

-- `full` names a place from the limit on, and no place above the count of writes; `worn` names a sequence from the limit
-- on, which at most two openings of a head a line can have brought about, each of which raises it by two
abbrev pub IsLimitMet : Limits → ℕ → ℕ → what.What → Type 0
IsLimitMet limits writes lines (whats.Did place path operation reply) = Unit {0}
IsLimitMet limits writes lines (whats.Local locals.Depth) = Unit {0}
IsLimitMet limits writes lines (whats.Local locals.Budget) = Unit {0}
IsLimitMet limits writes lines (whats.Local locals.Kind) = Unit {0}
IsLimitMet limits writes lines (whats.Local (locals.Unbound variable)) = Unit {0}
IsLimitMet limits writes lines (whats.Local locals.NotCallable) = Unit {0}
IsLimitMet limits writes lines (whats.Local (locals.Worn sequence)) = (limits.head_max ≤ sequence) × (sequence ≤ 4 * lines)
IsLimitMet limits writes lines (whats.Local (locals.Full place)) = (limits.place_max ≤ place) × (place ≤ writes)

-- The parts

-- each write's reply is true
abbrev pub AreWritesTrue : World → List op.Op → List Line → Type 0
AreWritesTrue opened history lines = All (λ (line : Line). IsWriteTrue opened history line.what) lines

-- each other operation's reply is true
abbrev pub AreReadsTrue : World → List op.Op → List Line → Type 0
AreReadsTrue opened history lines = All (λ (line : Line). IsReadTrue opened history (write_count lines) line.what × IsKeptAlone line.thread line.what) lines

-- in each thread the places rise
abbrev pub AreRising : List Line → Type 0
AreRising lines = EachAfter IsRisingAfter lines

-- the places of `main` come first, and those of `finally` last
abbrev pub AreInTurn : List Line → Type 0
AreInTurn lines = All (IsInTurn lines) lines

-- each local line that names a limit has come to it
abbrev pub AreLimitsMet : Limits → List Line → Type 0
AreLimitsMet limits lines = All (λ (line : Line). IsLimitMet limits (write_count lines) (length lines) line.what) lines

-- The lines are linearized by their places, from an opening world on and under these limits, whatever their paths: this is
-- the history of their writes, and under it each part holds.
pub record IsLinearized (opened : World) (limits : Limits) (history : List op.Op) (lines : List Line) : Type 0 where
  pub places : IsHistory lines history
  pub writes : AreWritesTrue opened history lines
  pub reads : AreReadsTrue opened history lines
  pub rising : AreRising lines
  pub turns : AreInTurn lines
  pub limits_met : AreLimitsMet limits lines

-- The lines are legal: they are linearized, and each operation went a way that it may go.
pub record IsLegal (opened : World) (limits : Limits) (history : List op.Op) (lines : List Line) : Type 0 where
  pub linearized : IsLinearized opened limits history lines
  pub paths : ArePathsAllowed lines
