-- What writes of classes answer.
use Rattle.std.specs.Prelude.{ℕ, ◌≡◌, ◌<◌, ◌≤◌, IsTrue, true, length}
use Rattle.at_value.specs.declared.operation.Op as op
use Rattle.at_value.specs.declared.reply.Answer.{Answer}
use Rattle.at_model.specs.Step.{is_done, is_write}
use Rattle.at_line.specs.Legal.{world_at}
use Rattle.at_view.specs.declared.mark.StepKind.TheVariants as kinds
use Rattle.at_view.specs.Words as words
use Rattle.at_core.specs.declared.world.Pass.{Pass}
use Rattle.at_core.specs.Backed.{Loads}
use Rattle.at_core.specs.Opened.{opening_of}
use Rattle.at_core.specs.Passes.{view}
use Rattle.at_call.specs.Done.{IsDone, LeavesUnwritten}
use Rattle.at_call.specs.UnderWay.{HasStep}
use Rattle.at_class.specs.declared.fault.ClassFault as class_fault
use Rattle.at_class.specs.declared.fault.ClassFault.TheVariants as faults

-- a step of the call loaded the place, and found it to be this
abbrev pub LoadedPlace : ℕ → Pass → Pass → Type 0
LoadedPlace place p q = HasStep (Loads kinds.PlaceLoad (words.number_of words.place) place) p q

-- The operation was done, or refused as the data model refuses it. Where it was a write, the place that was loaded is below the limit.
pub record IsChange (operation : op.Op) (p q : Pass) (answer : Answer) : Type 0 where
  pub done : IsDone operation p q answer
  pub below : IsTrue (is_done answer.reply) → (place : ℕ) × (place < (view p).who.limits.place_max) × LoadedPlace place p q

-- The operation would be a write at the place that was loaded, and wasn't made, since that place isn't below the limit.
pub record IsFull (operation : op.Op) (p q : Pass) (place : ℕ) : Type 0 where
  pub leaves : LeavesUnwritten p q
  pub loaded : LoadedPlace place p q
  pub past : (view p).who.limits.place_max ≤ place
  pub late : length (view p).history.seen ≤ place
  pub seen : place ≤ length (view q).history.seen
  pub write : is_write (world_at (opening_of (view p).who.limits) (view q).history.seen place) operation ≡ true

abbrev pub IsFault : op.Op → Pass → Pass → class_fault.ClassFault → Type 0
IsFault operation p q (faults.PlaceFull place) = IsFull operation p q place.0
IsFault operation p q faults.NoMemory = LeavesUnwritten p q
