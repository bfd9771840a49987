-- Lines one after another are what reads and writes of one view say.
use Rattle.std.proofs.Common.{◌≡◌, ◌∙◌, refl, sym, ap, ℕ, Bool, true, false, List, [], ◌∷◌, ◌++◌, length}
use Rattle.std.specs.Prelude.{All}
use Rattle.std.proofs.lemmas.List.Elements.{All-nil, All-cons}
use Rattle.at_value.specs.declared.operation.Op as op
use Rattle.at_value.specs.declared.reply.Place.{Place}
use Rattle.at_value.specs.declared.reply.Path as path
use Rattle.at_line.specs.declared.line.LineOp.TheVariants as line_ops
use Rattle.at_line.specs.declared.line.LineReply as line_reply
use Rattle.at_line.specs.declared.line.LineReply.TheVariants as line_replies
use Rattle.at_line.specs.declared.line.What as what
use Rattle.at_line.specs.declared.line.What.TheVariants as whats
use Rattle.at_line.specs.Lines.{main_thread}
use Rattle.at_line.specs.Serial.{GoesOn, IsSerial}
use Rattle.at_model.specs.World.{World}
use Rattle.at_model.specs.Step.{step, is_write}
use Rattle.at_model.specs.History.{replay}
use Rattle.at_event.specs.Events.{EventState, Event, read, write, first_state, IsLive, grown, did, said_by, IsEnabled, after_event, IsEventRun}
use Rattle.at_event.specs.OneView.{IsDoneBy, operations_in, SerialLinesAreEvents}
use Rattle.at_event.proofs.Serials.{one_longer}
use Rattle.at_event.proofs.OneViews.{alone_live}

-- events of the first view that lead from s to a state with this history, and say this
record Led (opened : World) (s : EventState) (said : List (ℕ × what.What)) (history : List op.Op) : Type 0 where
  pub events : List Event
  pub last : EventState
  pub run : IsEventRun opened s events said last
  pub alone : All (IsDoneBy main_thread) events
  pub leads : last.history ≡ history

-- one event before the others
led_by : (opened : World) (s : EventState) (event : Event) (w : what.What) (rest : List (ℕ × what.What)) (history : List op.Op) → IsEnabled opened s event → IsDoneBy main_thread event → (main_thread, w) ∷ [] ≡ said_by opened s event → Led opened (after_event s event) rest history
    → Led opened s ((main_thread, w) ∷ rest) history
led_by opened s event w rest history enabled alone said on = record {
  events = event ∷ on.events;
  last = on.last;
  run = (enabled, rest, ap (λ first. first ++ rest) said, on.run);
  alone = All-cons (IsDoneBy main_thread) event on.events alone on.alone;
  leads = on.leads;
}

-- the line is that of the operation after this history
-- the line is that of the operation after this history
told : (opened : World) (s : EventState) (place : Place) (n : ℕ) (way : path.Path) (operation : op.Op) (reply : line_reply.LineReply) → reply ≡ line_replies.Of (step (replay opened s.history) operation).reply → place.0 ≡ n
    → whats.Did place way (line_ops.Of operation) reply ≡ did opened s n operation way
told opened s place n way operation reply replied at =
    ap (λ (r : line_reply.LineReply). whats.Did place way (line_ops.Of operation) r) replied
    ∙ ap (λ (m : ℕ). whats.Did (record { 0 = m }) way (line_ops.Of operation) (line_replies.Of (step (replay opened s.history) operation).reply)) at

module _ (opened : World) (s : EventState) (place : Place) (way : path.Path) (operation : op.Op) (reply : line_reply.LineReply) (live : IsLive s main_thread)
    (replied : reply ≡ line_replies.Of (step (replay opened s.history) operation).reply) (rest : List (ℕ × what.What)) (last : List op.Op) (Rest : List op.Op → Type 0)
    (more : (t : EventState) → IsLive t main_thread → Rest t.history → Led opened t rest last) where
  abbrev line : what.What
  line = whats.Did place way (line_ops.Of operation) reply

  by_test : (b : Bool) → is_write (replay opened s.history) operation ≡ b → GoesOn Rest b s.history place.0 operation → Led opened s ((main_thread, line) ∷ rest) last
  by_test true writes on =
      let event = write main_thread operation way in
      let same : line ≡ did opened s (length (grown s operation)) operation way = told opened s place (length (grown s operation)) way operation reply replied (on.0 ∙ sym (one_longer s.history operation)) in
      led_by opened s event line rest last (live, writes) refl (ap (λ w. (main_thread, w) ∷ []) same) (more (after_event s event) (alone_live s event refl live) on.1)
  by_test false reads on =
      let event = read main_thread operation way in
      let same : line ≡ did opened s (length s.history) operation way = told opened s place (length s.history) way operation reply replied on.0 in
      led_by opened s event line rest last (live, reads) refl (ap (λ w. (main_thread, w) ∷ []) same) (more (after_event s event) (alone_live s event refl live) on.1)

serial_led : (opened : World) (says : List what.What) (s : EventState) (last : List op.Op) → IsLive s main_thread → IsSerial opened s.history says last → Led opened s (operations_in says) last
serial_led opened [] s last live serial = record { events = []; last = s; run = (refl, refl); alone = All-nil (IsDoneBy main_thread); leads = serial }
serial_led opened (whats.Did place way (line_ops.Of operation) reply ∷ says) s last live serial =
    by_test opened s place way operation reply live serial.0 (operations_in says) last (λ history. IsSerial opened history says last)
    (λ t on serial. serial_led opened says t last on serial) (is_write (replay opened s.history) operation) refl serial.1
serial_led opened (whats.Did place way (line_ops.Begin first second) reply ∷ says) s last live serial = serial_led opened says s last live serial.1
serial_led opened (whats.Did place way line_ops.Finish reply ∷ says) s last live serial = serial_led opened says s last live serial.1
serial_led opened (whats.Local local ∷ says) s last live serial = serial_led opened says s last live serial

pub serial_events : SerialLinesAreEvents
serial_events opened says history serial = let led = serial_led opened says first_state history refl serial in (led.events, led.last, led.run, led.alone, led.leads)
