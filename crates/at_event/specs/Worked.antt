-- A run of events in which views split, read, write and join, written out.
use Rattle.std.specs.Prelude.{ℕ, pos, List, [], ◌∷◌, Some, None}
use Rattle.at_value.specs.declared.value.Value.TheVariants as values
use Rattle.at_value.specs.Types.{Op, Reply, Path}
use Rattle.at_value.specs.declared.operation.Op.TheVariants as ops
use Rattle.at_value.specs.declared.reply.Reply.TheVariants as replies
use Rattle.at_value.specs.declared.reply.Path.TheVariants as paths
use Rattle.at_line.specs.declared.line.LineOp.TheVariants as line_ops
use Rattle.at_line.specs.declared.line.LineReply.TheVariants as line_replies
use Rattle.at_line.specs.Types.{What}
use Rattle.at_line.specs.declared.line.What.TheVariants as whats
use Rattle.at_line.specs.LineExamples.{makes_class}
use Rattle.at_model.specs.World.{opening}
use Rattle.at_event.specs.Events.{EventState, Event, split, join, read, write, first_state, IsEventRun}

-- `1.5 = 7`, and an object of class 1
abbrev pub puts_seven : Op
puts_seven = ops.TypeSet 1 5 (values.Int (pos 7))

abbrev pub makes_object : Op
makes_object = ops.New 1

-- The first view makes the class, and a second splits off. The second reads the order of the class and puts a value into
-- it, the first makes an object and takes the second in, and then reads the value from the object.
abbrev pub worked_events : List Event
worked_events =
    write 0 makes_class paths.Locked ∷ split 0 ∷ read 1 (ops.Mro 1) paths.Locked ∷ write 1 puts_seven paths.Locked ∷ write 0 makes_object paths.Locked ∷ join 0 1
    ∷ read 0 (ops.Get 0 5) paths.Fast ∷ []

abbrev pub line_at : Path → ℕ → Op → Reply → What
line_at way place operation said = whats.Did (record { 0 = place }) way (line_ops.Of operation) (line_replies.Of said)

-- what is written down, with the views
abbrev pub worked_lines : List (ℕ × What)
worked_lines =
    (0, line_at paths.Locked 1 makes_class replies.Done) ∷ (1, line_at paths.Locked 1 (ops.Mro 1) (replies.Order (1 ∷ 0 ∷ []))) ∷ (1, line_at paths.Locked 2 puts_seven replies.Done)
    ∷ (0, line_at paths.Locked 3 makes_object (replies.Made 0 None)) ∷ (0, line_at paths.Fast 3 (ops.Get 0 5) (replies.Value (values.Int (pos 7)))) ∷ []

-- the first view is left, has seen all, and has all places as its own
abbrev pub worked_history : List Op
worked_history = makes_class ∷ puts_seven ∷ makes_object ∷ []

abbrev pub worked_last : EventState
worked_last = record { history = worked_history; views = Some (record { birth = 0; seen = worked_history; own = 1 ∷ 3 ∷ 2 ∷ [] }) ∷ None ∷ [] }

abbrev pub IsWorked : Type 0
IsWorked = IsEventRun opening first_state worked_events worked_lines worked_last
