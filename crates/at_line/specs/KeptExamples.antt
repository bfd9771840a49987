-- Lists of lines whose sections are kept, and lists in which one isn't: another thread wrote its object meanwhile.
use Rattle.std.specs.Prelude.{ℕ, pos, List, [], ◌∷◌, ◌++◌, None}
use Rattle.at_value.specs.declared.value.Value.TheVariants as values
use Rattle.at_value.specs.declared.operation.Op as op
use Rattle.at_value.specs.declared.operation.Op.TheVariants as ops
use Rattle.at_value.specs.declared.reply.Reply.TheVariants as replies
use Rattle.at_line.specs.declared.line.Line.{Line}
use Rattle.at_line.specs.declared.line.LineReply.TheVariants as line_replies
use Rattle.at_line.specs.declared.line.Local.TheVariants as locals
use Rattle.at_line.specs.declared.line.What as what
use Rattle.at_line.specs.declared.line.What.TheVariants as whats
use Rattle.at_line.specs.Lines.{main_thread}
use Rattle.at_line.specs.LineExamples.{begins, begins_both, ends, does, line_in, makes_class}

abbrev pub ends_kept : ℕ → what.What
ends_kept place = ends place line_replies.Kept

abbrev pub sets : ℕ → op.Op
sets o = ops.Set o 5 (values.Int (pos 7))

abbrev pub deletes : ℕ → op.Op
deletes o = ops.Del o 5

abbrev pub sets_class : ℕ → op.Op
sets_class o = ops.SetClass o 1

abbrev pub shares : op.Op
shares = ops.Share 1 0

-- the first object as a value of the second
abbrev pub puts : op.Op
puts = ops.Set 1 5 (values.Obj 0)

-- writes of classes: a subclass of class 1, and class 1 itself
abbrev pub makes_subclass : op.Op
makes_subclass = ops.NewClass 2 (1 ∷ [])

abbrev pub sets_type : op.Op
sets_type = ops.TypeSet 1 5 (values.Obj 0)

abbrev pub deletes_type : op.Op
deletes_type = ops.TypeDel 1 5

abbrev pub sets_bases : op.Op
sets_bases = ops.SetBases 1 (0 ∷ [])

-- `main` makes a class and two objects
abbrev pub two_objects : List Line
two_objects =
    line_in main_thread 1 (does 1 makes_class replies.Done) ∷ line_in main_thread 2 (does 2 (ops.New 1) (replies.Made 0 None))
    ∷ line_in main_thread 3 (does 3 (ops.New 1) (replies.Made 1 None)) ∷ []

abbrev pub two_objects_history : List op.Op
two_objects_history = makes_class ∷ ops.New 1 ∷ ops.New 1 ∷ []

-- and the second takes the dictionary of the first
abbrev pub opening_lines : List Line
opening_lines = two_objects ++ line_in main_thread 4 (does 4 shares replies.Done) ∷ []

abbrev pub opening_history : List op.Op
opening_history = two_objects_history ++ shares ∷ []

-- and the first, with the second, is written
abbrev pub written_lines : List Line
written_lines = opening_lines ++ line_in main_thread 5 (does 5 (sets 0) replies.Done) ∷ []

abbrev pub written_history : List op.Op
written_history = opening_history ++ sets 0 ∷ []

-- Sections that are kept

-- the first thread has a section over the first object inside one over the second, which never ends and so counts for
-- nothing; the second thread writes the second object
abbrev pub other_written : List Line
other_written = two_objects ++ line_in 1 1 (begins 3 1) ∷ line_in 1 2 (begins 3 0) ∷ line_in 1 3 (ends_kept 4) ∷ line_in 2 1 (does 4 (sets 1) replies.Done) ∷ []

abbrev pub other_written_history : List op.Op
other_written_history = two_objects_history ++ sets 1 ∷ []

-- the first thread has a section over the second object inside one over the first; the second thread writes the second
-- object once the inner section has ended, and before the outer one does
abbrev pub written_once_ended : List Line
written_once_ended =
    two_objects ++ line_in 1 1 (begins 3 0) ∷ line_in 1 2 (begins 3 1) ∷ line_in 1 3 (ends_kept 3) ∷ line_in 1 4 (ends_kept 4) ∷ line_in 2 1 (does 4 (sets 1) replies.Done) ∷ []

-- the second thread writes the object at the place at which the section begins, so before it, and another object later
abbrev pub written_at_begin : List Line
written_at_begin =
    two_objects ++ line_in 1 1 (begins 4 0) ∷ line_in 1 2 (ends_kept 5) ∷ line_in 2 1 (does 4 (sets 0) replies.Done) ∷ line_in 2 2 (does 5 (sets 1) replies.Done) ∷ []

abbrev pub written_at_begin_history : List op.Op
written_at_begin_history = two_objects_history ++ sets 0 ∷ sets 1 ∷ []

-- The second thread writes the object of the inner section of the first, which was suspended and says so: nothing is asked
-- of it. The next end belongs to the outer section.
abbrev pub suspended_inside : List Line
suspended_inside =
    two_objects ++ line_in 1 1 (begins 3 1) ∷ line_in 1 2 (begins 3 0) ∷ line_in 1 3 (ends 4 (line_replies.Suspended 1)) ∷ line_in 1 4 (ends_kept 4)
    ∷ line_in 2 1 (does 4 (sets 0) replies.Done) ∷ []

abbrev pub suspended_inside_history : List op.Op
suspended_inside_history = two_objects_history ++ sets 0 ∷ []

-- Two threads have a section each, and the second writes the object of its own: an end belongs to a begin of its own thread,
-- and a thread's own writes leave its section kept. The lines of the two stand mixed.
abbrev pub two_sections : List Line
two_sections =
    two_objects ++ line_in 1 1 (begins 3 0) ∷ line_in 2 1 (begins 3 1) ∷ line_in 1 2 (ends_kept 4) ∷ line_in 2 2 (does 4 (sets 1) replies.Done) ∷ line_in 2 3 (ends_kept 4) ∷ []

-- The section is over the second object, and the second thread writes the first, whose dictionary both have. The write
-- touches the first object and its dictionary, which has the first object's name: so the section over the second is kept,
-- although what that object reads has changed.
abbrev pub owner_written : List Line
owner_written = opening_lines ++ line_in 1 1 (begins 4 1) ∷ line_in 1 2 (ends_kept 5) ∷ line_in 2 1 (does 5 (sets 0) replies.Done) ∷ []

-- the section is over the first object, and the second thread gives the second object a class, which touches no dictionary
abbrev pub other_class_set : List Line
other_class_set = opening_lines ++ line_in 1 1 (begins 4 0) ∷ line_in 1 2 (ends_kept 5) ∷ line_in 2 1 (does 5 (sets_class 1) replies.Done) ∷ []

abbrev pub class_set_history : List op.Op
class_set_history = opening_history ++ sets_class 1 ∷ []

-- the section is over both objects, and the second thread does the writes that touch no rows, on classes whose numbers the
-- objects have
abbrev pub classes_written : List Line
classes_written =
    two_objects ++ line_in 1 1 (begins_both 3 0 1) ∷ line_in 1 2 (ends_kept 8) ∷ line_in 2 1 (does 4 makes_subclass replies.Done) ∷ line_in 2 2 (does 5 sets_type replies.Done)
    ∷ line_in 2 3 (does 6 deletes_type replies.Done) ∷ line_in 2 4 (does 7 sets_bases replies.Done) ∷ line_in 2 5 (does 8 (ops.New 1) (replies.Made 2 None)) ∷ []

abbrev pub classes_written_history : List op.Op
classes_written_history = two_objects_history ++ makes_subclass ∷ sets_type ∷ deletes_type ∷ sets_bases ∷ ops.New 1 ∷ []

-- the section is over the first object, which the second thread puts into the second as a value
abbrev pub value_written : List Line
value_written = two_objects ++ line_in 1 1 (begins 3 0) ∷ line_in 1 2 (ends_kept 4) ∷ line_in 2 1 (does 4 puts replies.Done) ∷ []

abbrev pub value_written_history : List op.Op
value_written_history = two_objects_history ++ puts ∷ []

-- an end to which no begin belongs counts for nothing
abbrev pub end_alone : List Line
end_alone = two_objects ++ line_in 1 1 (ends_kept 4) ∷ line_in 2 1 (does 4 (sets 1) replies.Done) ∷ []

-- Sections that aren't kept, and say that they were

-- the second thread writes the object of the first thread's section
abbrev pub object_written : List Line
object_written = opening_lines ++ line_in 1 1 (begins 4 0) ∷ line_in 1 2 (ends_kept 5) ∷ line_in 2 1 (does 5 (sets 0) replies.Done) ∷ []

abbrev pub object_written_history : List op.Op
object_written_history = opening_history ++ sets 0 ∷ []

-- it writes the other object, which names the dictionary of the first
abbrev pub dictionary_written : List Line
dictionary_written = opening_lines ++ line_in 1 1 (begins 4 0) ∷ line_in 1 2 (ends_kept 5) ∷ line_in 2 1 (does 5 (sets 1) replies.Done) ∷ []

abbrev pub dictionary_written_history : List op.Op
dictionary_written_history = opening_history ++ sets 1 ∷ []

-- it writes the second object of a section over two
abbrev pub second_written : List Line
second_written = two_objects ++ line_in 1 1 (begins_both 3 0 1) ∷ line_in 1 2 (ends_kept 4) ∷ line_in 2 1 (does 4 (sets 1) replies.Done) ∷ []

-- between the begin and the end the first thread reads, and says a local word
abbrev pub written_past_other_lines : List Line
written_past_other_lines =
    two_objects ++ line_in 1 1 (begins 3 1) ∷ line_in 1 2 (does 3 (ops.Get 1 5) replies.NoAttr) ∷ line_in 1 3 (whats.Local locals.Kind) ∷ line_in 1 4 (ends_kept 4)
    ∷ line_in 2 1 (does 4 (sets 1) replies.Done) ∷ []

-- It writes a third object, which has taken the dictionary since the section began, not from the section's object but from
-- the second. The rows of a write are those at its own place.
abbrev pub named_meanwhile : List Line
named_meanwhile =
    opening_lines ++ line_in main_thread 5 (does 5 (ops.New 1) (replies.Made 2 None)) ∷ line_in 1 1 (begins 5 0) ∷ line_in 1 2 (ends_kept 7)
    ∷ line_in 2 1 (does 6 (ops.Share 2 1) replies.Done) ∷ line_in 2 2 (does 7 (sets 2) replies.Done) ∷ []

abbrev pub named_meanwhile_history : List op.Op
named_meanwhile_history = opening_history ++ ops.New 1 ∷ ops.Share 2 1 ∷ sets 2 ∷ []

-- it deletes an attribute of the section's object
abbrev pub object_deleted : List Line
object_deleted = written_lines ++ line_in 1 1 (begins 5 1) ∷ line_in 1 2 (ends_kept 6) ∷ line_in 2 1 (does 6 (deletes 1) replies.Done) ∷ []

abbrev pub deleted_history : List op.Op
deleted_history = written_history ++ deletes 1 ∷ []

-- it deletes one of the other object, which names the dictionary of the section's
abbrev pub dictionary_deleted : List Line
dictionary_deleted = written_lines ++ line_in 1 1 (begins 5 0) ∷ line_in 1 2 (ends_kept 6) ∷ line_in 2 1 (does 6 (deletes 1) replies.Done) ∷ []

-- it gives the section's object a class
abbrev pub class_set : List Line
class_set = opening_lines ++ line_in 1 1 (begins 4 1) ∷ line_in 1 2 (ends_kept 5) ∷ line_in 2 1 (does 5 (sets_class 1) replies.Done) ∷ []

-- it lets the section's object take the dictionary of the other
abbrev pub dictionary_taken : List Line
dictionary_taken = two_objects ++ line_in 1 1 (begins 3 1) ∷ line_in 1 2 (ends_kept 4) ∷ line_in 2 1 (does 4 shares replies.Done) ∷ []

-- it lets the other object take the dictionary of the section's
abbrev pub dictionary_given : List Line
dictionary_given = two_objects ++ line_in 1 1 (begins 3 0) ∷ line_in 1 2 (ends_kept 4) ∷ line_in 2 1 (does 4 shares replies.Done) ∷ []

-- the end belongs to the inner of two sections, over the object that is written
abbrev pub inner_written : List Line
inner_written = opening_lines ++ line_in 1 1 (begins 4 0) ∷ line_in 1 2 (begins 4 1) ∷ line_in 1 3 (ends_kept 5) ∷ line_in 2 1 (does 5 (sets 1) replies.Done) ∷ []

-- the last end belongs to the outer section, since the end before it belongs to the inner one
abbrev pub outer_written : List Line
outer_written =
    opening_lines ++ line_in 1 1 (begins 4 0) ∷ line_in 1 2 (begins 4 1) ∷ line_in 1 3 (ends_kept 4) ∷ line_in 1 4 (ends_kept 5) ∷ line_in 2 1 (does 5 (sets 0) replies.Done) ∷ []
