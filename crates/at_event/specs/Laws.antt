-- The laws of whole events.
use Rattle.std.specs.Prelude.{ℕ, ◌≡◌, ◌<◌, ◌≤◌, ◌⊎◌, List, ◌++◌, length, Some, None}
use Rattle.at_value.specs.declared.operation.Op as op
use Rattle.at_value.specs.declared.reply.Answer.{Answer}
use Rattle.at_value.specs.declared.reply.Path as path
use Rattle.at_line.specs.declared.line.Line.{Line}
use Rattle.at_line.specs.declared.line.What as what
use Rattle.at_model.specs.World.{World}
use Rattle.at_model.specs.Step.{step}
use Rattle.at_model.specs.History.{replay, IsProper}
use Rattle.at_line.specs.Lines.{IsHistory}
use Rattle.at_line.specs.Legal.{AreWritesTrue, AreReadsTrue, AreRising}
use Rattle.at_view.specs.declared.view.HistoryView.{HistoryView}
use Rattle.at_event.specs.Events.{EventState, Event, join, read, write, first_state, view_of, after_event, grown, IsEnabled, IsEventRun, AreLinesOf, owner_count}
use Rattle.at_event.specs.Calls.{IsPrefix, IsCall}

-- What a run of events has brought about. The history is proper. The lines are one history, with true replies, and places
-- that rise in each view. Each place of the history stands once among the own places of all live views, and no other
-- number does. Each live view has its birth number, and has seen a prefix of the history.
pub record IsSound (opened : World) (last : EventState) (lines : List Line) : Type 0 where
  pub proper : IsProper opened last.history
  pub places : IsHistory lines last.history
  pub writes : AreWritesTrue opened last.history lines
  pub reads : AreReadsTrue opened last.history lines
  pub rising : AreRising lines
  pub owned : (place : ℕ) → 0 < place → place ≤ length last.history → owner_count place last.views ≡ 1
  pub owned_alone : (place : ℕ) → (place ≡ 0) ⊎ (length last.history < place) → owner_count place last.views ≡ 0
  pub views : (v : ℕ) (view : HistoryView) → view_of last v ≡ Some view → (view.birth ≡ v) × IsPrefix view.seen last.history

abbrev pub EventsAreSound : Type 0
EventsAreSound =
    (opened : World) (events : List Event) (said : List (ℕ × what.What)) (last : EventState) (lines : List Line) → IsEventRun opened first_state events said last → AreLinesOf said lines → IsSound opened last lines

-- the answer of an operation that was done at a place, after a history
abbrev pub answer_after : World → List op.Op → ℕ → op.Op → path.Path → Answer
answer_after opened history place operation way = record { place = record { 0 = place }; reply = (step (replay opened history) operation).reply; path = way }

-- a read or a write of an event is a call at one place, by the view that makes it
abbrev pub ReadsAreCalls : Type 0
ReadsAreCalls =
    (opened : World) (events : List Event) (said : List (ℕ × what.What)) (s : EventState) (v : ℕ) (operation : op.Op) (way : path.Path) (before : HistoryView)
    → IsEventRun opened first_state events said s → IsEnabled opened s (read v operation way) → view_of s v ≡ Some before
    → (now : HistoryView) × (view_of (after_event s (read v operation way)) v ≡ Some now)
    × IsCall opened before operation (answer_after opened s.history (length s.history) operation way) now

abbrev pub WritesAreCalls : Type 0
WritesAreCalls =
    (opened : World) (events : List Event) (said : List (ℕ × what.What)) (s : EventState) (v : ℕ) (operation : op.Op) (way : path.Path) (before : HistoryView)
    → IsEventRun opened first_state events said s → IsEnabled opened s (write v operation way) → view_of s v ≡ Some before
    → (now : HistoryView) × (view_of (after_event s (write v operation way)) v ≡ Some now)
    × IsCall opened before operation (answer_after opened s.history (length (grown s operation)) operation way) now

-- A view that has taken in another has seen what either had seen, has the places of both as its own, and the other is spent.
abbrev pub JoinsSeeBoth : Type 0
JoinsSeeBoth =
    (opened : World) (events : List Event) (said : List (ℕ × what.What)) (s : EventState) (v other : ℕ) (before taken : HistoryView)
    → IsEventRun opened first_state events said s → IsEnabled opened s (join v other) → view_of s v ≡ Some before → view_of s other ≡ Some taken
    → (now : HistoryView) × (view_of (after_event s (join v other)) v ≡ Some now) × (view_of (after_event s (join v other)) other ≡ None)
    × IsPrefix before.seen now.seen × IsPrefix taken.seen now.seen × (now.own ≡ before.own ++ taken.own)
