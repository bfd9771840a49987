-- The lines of events are each at the end of the history so far, and the history stays proper.
use Rattle.std.proofs.Common.{◌≡◌, ◌∙◌, ℕ, suc, Bool, IsTrue, List, [], ◌∷◌, ◌++◌, length, map, refl, sym, ap, subst, length-append, append_assoc, append-nil, arith}
use Rattle.at_value.specs.declared.operation.Op as op
use Rattle.at_line.specs.declared.line.Line.{Line}
use Rattle.at_line.specs.declared.line.What as what
use Rattle.at_model.specs.World.{World}
use Rattle.at_model.specs.Step.{step, is_write}
use Rattle.at_model.specs.History.{replay, IsProper}
use Rattle.at_line.specs.Lines.{what_of}
use Rattle.at_line.specs.Serial.{GoesOn, IsSerial}
use Rattle.at_event.specs.Events.{EventState, Event, split, join, read, write, grown, said_by, IsEnabled, after_event, IsEventRun, view_and_what, AreLinesOf}

abbrev pub what_said : ℕ × what.What → what.What
what_said said = said.1

pub one_longer : (history : List op.Op) (operation : op.Op) → length (history ++ operation ∷ []) ≡ suc (length history)
one_longer history operation = omega (arith, length-append history (operation ∷ []))

event_is_serial : (opened : World) (s : EventState) (event : Event) (rest : List (ℕ × what.What)) (last : List op.Op) → IsEnabled opened s event → IsSerial opened (after_event s event).history (map what_said rest) last → IsSerial opened s.history (map what_said (said_by opened s event ++ rest)) last
event_is_serial opened s (split v) rest last enabled on = on
event_is_serial opened s (join v other) rest last enabled on = on
event_is_serial opened s (read v operation way) rest last (live, reads) on =
    (refl, subst (λ (b : Bool). GoesOn (λ longer. IsSerial opened longer (map what_said rest) last) b s.history (length s.history) operation) (sym reads) (refl, on))
event_is_serial opened s (write v operation way) rest last (live, writes) on =
    (refl, subst (λ (b : Bool). GoesOn (λ longer. IsSerial opened longer (map what_said rest) last) b s.history (length (grown s operation)) operation) (sym writes) (one_longer s.history operation, on))

pub run_is_serial : (opened : World) (events : List Event) (s last : EventState) (said : List (ℕ × what.What)) → IsEventRun opened s events said last → IsSerial opened s.history (map what_said said) last.history
run_is_serial opened [] s last said (none, same) = subst (λ (ws : List (ℕ × what.What)). IsSerial opened s.history (map what_said ws) last.history) (sym none) (ap (λ (t : EventState). t.history) same)
run_is_serial opened (event ∷ events) s last said (enabled, rest, is, on) =
    subst (λ (ws : List (ℕ × what.What)). IsSerial opened s.history (map what_said ws) last.history) (sym is)
    (event_is_serial opened s event rest last.history enabled (run_is_serial opened events (after_event s event) last rest on))

whats_said : (lines : List Line) → map what_of lines ≡ map what_said (map view_and_what lines)
whats_said [] = refl
whats_said (line ∷ lines) = ap (λ ws. line.what ∷ ws) (whats_said lines)

pub lines_are_serial : (opened : World) (s last : EventState) (events : List Event) (said : List (ℕ × what.What)) (lines : List Line) → IsEventRun opened s events said last → AreLinesOf said lines → IsSerial opened s.history (map what_of lines) last.history
lines_are_serial opened s last events said lines run are = subst (λ ws. IsSerial opened s.history ws last.history) (sym (whats_said lines ∙ ap (map what_said) are)) (run_is_serial opened events s last said run)

-- a proper history with one write more is proper
proper_more : (opened : World) (history : List op.Op) (operation : op.Op) → IsProper opened history → IsTrue (is_write (replay opened history) operation) → IsProper opened (history ++ operation ∷ [])
proper_more opened [] operation proper writes = (writes, tt)
proper_more opened (first ∷ history) operation (now, proper) writes = (now, proper_more (step opened first).world history operation proper writes)

event_is_proper : (opened : World) (s : EventState) (event : Event) → IsEnabled opened s event → IsProper opened s.history → IsProper opened (after_event s event).history
event_is_proper opened s (split v) enabled proper = proper
event_is_proper opened s (join v other) enabled proper = proper
event_is_proper opened s (read v operation way) enabled proper = proper
event_is_proper opened s (write v operation way) (live, writes) proper = proper_more opened s.history operation proper writes

-- What every enabled event keeps, every run does.
pub run_keeps : (opened : World) (P : EventState → Type 0) → ((s : EventState) (event : Event) → IsEnabled opened s event → P s → P (after_event s event)) → (events : List Event) (s last : EventState) (said : List (ℕ × what.What)) → IsEventRun opened s events said last → P s → P last
run_keeps opened P keeps [] s last said (none, same) p = subst P same p
run_keeps opened P keeps (event ∷ events) s last said (enabled, rest, is, on) p = run_keeps opened P keeps events (after_event s event) last rest on (keeps s event enabled p)

pub run_is_proper : (opened : World) (events : List Event) (s last : EventState) (said : List (ℕ × what.What)) → IsEventRun opened s events said last → IsProper opened s.history → IsProper opened last.history
run_is_proper opened events s last said run proper = run_keeps opened (λ t. IsProper opened t.history) (event_is_proper opened) events s last said run proper

-- one event more at the end of a run
pub run_more : (opened : World) (events : List Event) (s last : EventState) (said : List (ℕ × what.What)) (event : Event) → IsEventRun opened s events said last → IsEnabled opened last event → IsEventRun opened s (events ++ event ∷ []) (said ++ said_by opened last event) (after_event last event)
run_more opened [] s last said event (none, same) enabled =
    let now : EventState → EventState = λ t. after_event t event in
    (subst (λ t. IsEnabled opened t event) (sym same) enabled, [], ap (λ ws. ws ++ said_by opened last event) none ∙ ap (λ t. said_by opened t event) (sym same) ∙ sym (append-nil (said_by opened s event)), (refl, ap now same))
run_more opened (first ∷ events) s last said event (enabled_first, rest, is, on) enabled =
    (enabled_first, rest ++ said_by opened last event, ap (λ ws. ws ++ said_by opened last event) is ∙ append_assoc (said_by opened s first) rest (said_by opened last event), run_more opened events (after_event s first) last rest event on enabled)
