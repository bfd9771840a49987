-- What an operation on classes replies, and what it makes of the classes, where all its objects are made.
use Rattle.std.specs.Prelude.{ℕ, ◌≡◌, not, List, [], Option, Result, Ok, Err, if◌then◌else◌}
use Rattle.at_value.specs.Pairs.{with_value, without}
use Rattle.at_value.specs.declared.value.Value as value
use Rattle.at_value.specs.declared.operation.Op as op
use Rattle.at_value.specs.declared.reply.Reply as reply
use Rattle.at_value.specs.declared.reply.Reply.TheVariants as replies
use Rattle.at_model.specs.declared.rows.ClassRow.{ClassRow}
use Rattle.at_model.specs.World.{World, row_of, own_of}
use Rattle.at_model.specs.Attributes.{Outcome, unchanged}
use Rattle.at_model.specs.Step.{are_made, classes_in, effect, with_class, with_names}

-- the world of these classes alone
abbrev pub world_of : List (Option ClassRow) → World
world_of classes = record { classes = classes; objects = []; dicts = [] }

-- the reply to an operation all of whose objects are made, and the world after it
abbrev pub class_step : List (Option ClassRow) → op.Op → Outcome
class_step classes operation =
    if not (are_made (world_of classes) (classes_in operation))
    then unchanged (world_of classes) replies.NoClass
    else effect (world_of classes) operation

abbrev pub reply_to : List (Option ClassRow) → op.Op → reply.Reply
reply_to classes operation = (class_step classes operation).reply

abbrev pub classes_after : List (Option ClassRow) → op.Op → List (Option ClassRow)
classes_after classes operation = (class_step classes operation).world.classes

-- the reply and the classes are those after the operation
abbrev pub IsClassStep : op.Op → List (Option ClassRow) → List (Option ClassRow) → reply.Reply → Type 0
IsClassStep operation old new reply = (reply ≡ reply_to old operation) × (new ≡ classes_after old operation)

-- what a plan replies: it is done, or refused
abbrev pub plan_reply : {T : Type 0} → Result T reply.Reply → reply.Reply
plan_reply (Ok x) = replies.Done
plan_reply (Err refusal) = refusal

-- the classes once class c is made with these bases
abbrev pub new_class : List (Option ClassRow) → ℕ → List ℕ → List (Option ClassRow)
new_class classes c bases = (with_class (world_of classes) c bases).classes

-- the classes once class c has a value under the name, and once it hasn't the name
abbrev pub with_name : List (Option ClassRow) → ℕ → ℕ → value.Value → List (Option ClassRow)
with_name classes c n v = with_names classes c (row_of classes c) (with_value n v (own_of (row_of classes c)))

abbrev pub without_name : List (Option ClassRow) → ℕ → ℕ → List (Option ClassRow)
without_name classes c n = with_names classes c (row_of classes c) (without n (own_of (row_of classes c)))
