-- Whole events: each operation is done at one moment, at the end of the history so far, by one of the live views. A view
-- stands for a pass, and has seen a prefix of the history.
use Rattle.std.specs.Prelude.{ℕ, ◌≡◌, ◌≢◌, ◌+◌, ◌==◌, nat_lt, false, IsTrue, List, [], ◌∷◌, ◌++◌, length, map, set, count_by, Option, Some, None, IsSome, slice_index_or, if◌then◌else◌}
use Rattle.at_value.specs.declared.operation.Op as op
use Rattle.at_value.specs.declared.reply.Path as path
use Rattle.at_line.specs.declared.line.Line.{Line}
use Rattle.at_line.specs.declared.line.LineOp.TheVariants as line_ops
use Rattle.at_line.specs.declared.line.LineReply.TheVariants as line_replies
use Rattle.at_line.specs.declared.line.What as what
use Rattle.at_line.specs.declared.line.What.TheVariants as whats
use Rattle.at_model.specs.World.{World}
use Rattle.at_model.specs.Step.{step, is_write}
use Rattle.at_model.specs.History.{replay}
use Rattle.at_view.specs.declared.view.HistoryView.{HistoryView}
use Rattle.at_view.specs.Views.{longer}

-- the history of writes, and the views by number, none where a view is spent; a new view has the next number, so that no
-- number is used again
pub record EventState : Type 0 where
  pub history : List op.Op
  pub views : List (Option HistoryView)

pub data Event : Type 0 where
  -- a new view splits off this one
  split : ℕ → Event
  -- the first view takes in the second
  join : ℕ → ℕ → Event
  -- the view does an operation that is no write, or one that is, by any path
  read : ℕ → op.Op → path.Path → Event
  write : ℕ → op.Op → path.Path → Event

-- at first there is one view, which has seen nothing and has no place of its own
abbrev pub first_state : EventState
first_state = record { history = []; views = Some (record { birth = 0; seen = []; own = [] }) ∷ [] }

-- the view of this number, where it is live
abbrev pub view_of : EventState → ℕ → Option HistoryView
view_of s v = slice_index_or s.views v None

abbrev pub IsLive : EventState → ℕ → Type 0
IsLive s v = IsSome (view_of s v)

-- Views that change

-- a new view, which has seen what the other has and has no place of its own
abbrev pub split_off : ℕ → HistoryView → HistoryView
split_off birth view = record { birth = birth; seen = view.seen; own = [] }

-- a view that takes in another has seen what either has, and the places of both are its own
abbrev pub joined_view : HistoryView → HistoryView → HistoryView
joined_view view other = record view { seen = longer view.seen other.seen; own = view.own ++ other.own }

abbrev pub has_read : List op.Op → HistoryView → HistoryView
has_read history view = record view { seen = history }

-- a view that has written has seen the history with its write, whose place is its own
abbrev pub has_written : List op.Op → HistoryView → HistoryView
has_written history view = record view { seen = history; own = view.own ++ length history ∷ [] }

-- Events

-- An event is enabled, from an opening world on, where its views are live; a join takes in another view, a read's operation is no write after the
-- history, and a write's is one.
abbrev pub IsEnabled : World → EventState → Event → Type 0
IsEnabled opened s (split v) = IsLive s v
IsEnabled opened s (join v other) = IsLive s v × IsLive s other × (v ≢ other)
IsEnabled opened s (read v operation way) = IsLive s v × (is_write (replay opened s.history) operation ≡ false)
IsEnabled opened s (write v operation way) = IsLive s v × IsTrue (is_write (replay opened s.history) operation)

abbrev pub option_join : Option HistoryView → Option HistoryView → Option HistoryView
option_join (Some view) (Some other) = Some (joined_view view other)
option_join view other = view

abbrev pub option_change : (HistoryView → HistoryView) → Option HistoryView → Option HistoryView
option_change change None = None
option_change change (Some view) = Some (change view)

-- the views in which one has changed
abbrev pub with_view : EventState → ℕ → (HistoryView → HistoryView) → List (Option HistoryView)
with_view s v change = set s.views v (option_change change (view_of s v))

-- the history with one operation more
abbrev pub grown : EventState → op.Op → List op.Op
grown s operation = s.history ++ operation ∷ []

-- the state after an event
abbrev pub after_event : EventState → Event → EventState
after_event s (split v) = record s { views = s.views ++ option_change (split_off (length s.views)) (view_of s v) ∷ [] }
after_event s (join v other) = record s { views = set (set s.views v (option_join (view_of s v) (view_of s other))) other None }
after_event s (read v operation way) = record s { views = with_view s v (has_read s.history) }
after_event s (write v operation way) = record { history = grown s operation; views = with_view s v (has_written (grown s operation)) }

-- what a view did at a place, with the reply of the data model after the history
abbrev pub did : World → EventState → ℕ → op.Op → path.Path → what.What
did opened s place operation way = whats.Did (record { 0 = place }) way (line_ops.Of operation) (line_replies.Of (step (replay opened s.history) operation).reply)

-- What an event writes down, with its view: a read at the end of the history, a write at its new end.
abbrev pub said_by : World → EventState → Event → List (ℕ × what.What)
said_by opened s (split v) = []
said_by opened s (join v other) = []
said_by opened s (read v operation way) = (v, did opened s (length s.history) operation way) ∷ []
said_by opened s (write v operation way) = (v, did opened s (length (grown s operation)) operation way) ∷ []

-- These events, each of them enabled, lead from the first state to the last, and write this down.
abbrev pub IsEventRun : World → EventState → List Event → List (ℕ × what.What) → EventState → Type 0
IsEventRun opened s [] said last = (said ≡ []) × (s ≡ last)
IsEventRun opened s (event ∷ events) said last =
    IsEnabled opened s event × (rest : List (ℕ × what.What)) × (said ≡ said_by opened s event ++ rest) × IsEventRun opened (after_event s event) events rest last

-- the lines are these, with the views in the place of threads, whatever their numbers
abbrev pub view_and_what : Line → ℕ × what.What
view_and_what line = (line.thread, line.what)

abbrev pub AreLinesOf : List (ℕ × what.What) → List Line → Type 0
AreLinesOf said lines = map view_and_what lines ≡ said

-- how often a place is a live view's own, over all live views
abbrev pub own_count : ℕ → Option HistoryView → ℕ
own_count place None = 0
own_count place (Some view) = count_by (λ own. own == place) view.own

abbrev pub owner_count : ℕ → List (Option HistoryView) → ℕ
owner_count place [] = 0
owner_count place (view ∷ views) = own_count place view + owner_count place views
