-- The lines of a run: which of them are writes, and the history that their writes make.
use Rattle.std.specs.Prelude.{ℕ, zero, suc, ◌≡◌, ◌==◌, Bool, false, List, [], ◌∷◌, ◌++◌, length, take, Some, option_to_list, filter, if◌then◌else◌, slice_get}
use Rattle.at_value.specs.declared.operation.Op as op
use Rattle.at_line.specs.declared.line.Line.{Line}
use Rattle.at_line.specs.declared.line.LineOp.TheVariants as line_ops
use Rattle.at_line.specs.declared.line.LineReply as line_reply
use Rattle.at_line.specs.declared.line.LineReply.TheVariants as line_replies
use Rattle.at_line.specs.declared.line.What as what
use Rattle.at_line.specs.declared.line.What.TheVariants as whats
use Rattle.at_model.specs.Step.{is_done}

-- The threads of lines: `main` is thread 0, the threads of the script are numbered from 1 up to at most the last, and
-- `finally` has the number after it.
abbrev pub main_thread : ℕ
main_thread = 0

abbrev pub last_thread : ℕ
last_thread = 32

abbrev pub finally_thread : ℕ
finally_thread = suc last_thread

-- the lines of a thread, in the order in which they stand
abbrev pub lines_of_thread : ℕ → List Line → List Line
lines_of_thread thread lines = filter (λ (line : Line). line.thread == thread) lines

abbrev pub what_of : Line → what.What
what_of line = line.what

-- each element of a list with those before it
abbrev pub EachAfter : {X : Type 0} → (List X → X → Type 0) → List X → Type 0
EachAfter {X} P xs = (i : ℕ) (x : X) → slice_get xs i ≡ Some x → P (take i xs) x

-- Writes

-- whether the reply is that of a write: `Done`, or `Made`
abbrev pub is_write_reply : line_reply.LineReply → Bool
is_write_reply (line_replies.Of reply) = is_done reply
is_write_reply line_replies.Kept = false
is_write_reply (line_replies.Suspended times) = false

-- A line is a write where it is of an operation and has the reply of a write. The begin and the end of a section change
-- no world and are no writes, and a local line is none.
abbrev pub is_write_line : what.What → Bool
is_write_line (whats.Did place path (line_ops.Of operation) reply) = is_write_reply reply
is_write_line (whats.Did place path (line_ops.Begin first second) reply) = false
is_write_line (whats.Did place path line_ops.Finish reply) = false
is_write_line (whats.Local local) = false

-- the place and the operation of a write, and nothing of another line
abbrev pub write_in : what.What → List (ℕ × op.Op)
write_in (whats.Did place path (line_ops.Of operation) reply) = if is_write_reply reply then (place.0, operation) ∷ [] else []
write_in (whats.Did place path (line_ops.Begin first second) reply) = []
write_in (whats.Did place path line_ops.Finish reply) = []
write_in (whats.Local local) = []

abbrev pub writes : List Line → List (ℕ × op.Op)
writes [] = []
writes (line ∷ lines) = write_in line.what ++ writes lines

abbrev pub write_count : List Line → ℕ
write_count lines = length (writes lines)

-- The history

-- the operations of the writes at a place
abbrev pub operations_at : ℕ → List (ℕ × op.Op) → List op.Op
operations_at place [] = []
operations_at place (write ∷ more) = if write.0 == place then write.1 ∷ operations_at place more else operations_at place more

-- what a history has at a place; its places count from 1
abbrev pub history_at : ℕ → List op.Op → List op.Op
history_at zero history = []
history_at (suc before) history = option_to_list (slice_get history before)

-- The places of the writes are 1, 2 and so on up to their count, each once, and the history is the list of their
-- operations by place: at each place the writes have what the history has there.
abbrev pub IsHistory : List Line → List op.Op → Type 0
IsHistory lines history = (place : ℕ) → operations_at place (writes lines) ≡ history_at place history
