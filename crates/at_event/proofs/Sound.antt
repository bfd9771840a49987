-- What events lead to is sound.
use Rattle.std.proofs.Common.{◌∙◌, ℕ, zero, suc, List, [], ◌∷◌, length, map, get_or, refl, sym, subst, arith}
use Rattle.std.proofs.lemmas.List.{get_or-map, length-map}
use Rattle.std.proofs.lemmas.List.Elements.{All-nil, All-cons, All-append}
use Rattle.std.specs.Prelude.{All}
use Rattle.at_model.specs.World.{World}
use Rattle.at_line.specs.declared.line.Line.{Line}
use Rattle.at_line.specs.declared.line.LineOp.TheVariants as line_ops
use Rattle.at_line.specs.declared.line.What as what
use Rattle.at_line.specs.declared.line.What.TheVariants as whats
use Rattle.at_line.specs.Legal.{IsKeptAlone}
use Rattle.at_line.proofs.Serials.{are_serial, rising-from_pairs}
use Rattle.at_event.specs.Events.{EventState, Event, split, join, read, write, first_state, view_of, grown, did, said_by, after_event, IsEventRun, view_and_what, AreLinesOf}
use Rattle.at_event.specs.Laws.{IsSound}
use Rattle.at_event.proofs.Serials.{lines_are_serial, run_keeps, run_is_proper}
use Rattle.at_event.proofs.Views.{IsKnown, AreKnown, events_know, AreOwned, events_own, once_within, once_beyond}

first_known : AreKnown first_state
first_known zero = (refl, ([], refl))
first_known (suc v) = none v
  where
    none : (v : ℕ) → IsKnown [] (suc v) (view_of first_state (suc v))
    none zero = tt
    none (suc v) = tt

pub run_knows : (opened : World) (events : List Event) (said : List (ℕ × what.What)) (last : EventState) → IsEventRun opened first_state events said last → AreKnown last
run_knows opened events said last run = run_keeps opened AreKnown (events_know opened) events first_state last said run first_known

run_owns : (opened : World) (events : List Event) (said : List (ℕ × what.What)) (last : EventState) → IsEventRun opened first_state events said last → AreOwned last
run_owns opened events said last run = run_keeps opened AreOwned (events_own opened) events first_state last said run (λ place. refl)

-- an operation of the data model
abbrev pub IsOperation : what.What → Type 0
IsOperation (whats.Did place way (line_ops.Of operation) reply) = Unit {0}
IsOperation (whats.Did place way (line_ops.Begin first second) reply) = ⊥
IsOperation (whats.Did place way line_ops.Finish reply) = ⊥
IsOperation (whats.Local local) = ⊥

abbrev pub SaysOperation : ℕ × what.What → Type 0
SaysOperation said = IsOperation said.1

pub operation_kept : (thread : ℕ) (w : what.What) → IsOperation w → IsKeptAlone thread w
operation_kept thread (whats.Did place way (line_ops.Of operation) reply) is = tt
operation_kept thread (whats.Did place way (line_ops.Begin first second) reply) is = absurd is
operation_kept thread (whats.Did place way line_ops.Finish reply) is = absurd is
operation_kept thread (whats.Local local) is = absurd is

event_says : (opened : World) (s : EventState) (event : Event) → All SaysOperation (said_by opened s event)
event_says opened s (split v) = All-nil SaysOperation
event_says opened s (join v other) = All-nil SaysOperation
event_says opened s (read v operation way) = All-cons SaysOperation (v, did opened s (length s.history) operation way) [] tt (All-nil SaysOperation)
event_says opened s (write v operation way) = All-cons SaysOperation (v, did opened s (length (grown s operation)) operation way) [] tt (All-nil SaysOperation)

pub run_says : (opened : World) (events : List Event) (s last : EventState) (said : List (ℕ × what.What)) → IsEventRun opened s events said last → All SaysOperation said
run_says opened [] s last said (none, same) = subst (All SaysOperation) (sym none) (All-nil SaysOperation)
run_says opened (event ∷ events) s last said (enabled, rest, is, on) =
    subst (All SaysOperation) (sym is) (All-append SaysOperation (said_by opened s event) rest (event_says opened s event) (run_says opened events (after_event s event) last rest on))

-- what is said of operations alone is so in their lines
pub lines_say : (said : List (ℕ × what.What)) (lines : List Line) → AreLinesOf said lines → All SaysOperation said → All (λ (line : Line). IsOperation line.what) lines
lines_say said lines are says k d within =
    let mapped : All SaysOperation (map view_and_what lines) = subst (All SaysOperation) (sym are) says in
    subst SaysOperation (get_or-map view_and_what lines k d (view_and_what d) within) (mapped k (view_and_what d) (omega (arith, length-map lines view_and_what)))

pub sound : (opened : World) (events : List Event) (said : List (ℕ × what.What)) (last : EventState) (lines : List Line) → IsEventRun opened first_state events said last → AreLinesOf said lines → IsSound opened last lines
sound opened events said last lines run are =
    let serial = are_serial opened lines last.history (lines_are_serial opened first_state last events said lines run are) in
    let known = run_knows opened events said last run in
    let owned = run_owns opened events said last run in
    record {
      proper = run_is_proper opened events first_state last said run tt;
      places = serial.places;
      writes = serial.writes_true;
      reads = λ k d within. (serial.reads_true k d within, operation_kept (get_or lines k d).thread (get_or lines k d).what (lines_say said lines are (run_says opened events first_state last said run) k d within));
      rising = rising-from_pairs lines serial.rising;
      owned = λ place positive within. owned place ∙ once_within place (length last.history) positive within;
      owned_alone = λ place out. owned place ∙ once_beyond place (length last.history) out;
      views = λ v view is. subst (IsKnown last.history v) is (known v);
    }
