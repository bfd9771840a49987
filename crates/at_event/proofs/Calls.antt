-- Reads and writes of events are calls at one place.
use Rattle.std.proofs.Common.{◌≡◌, ◌∙◌, ℕ, ◌-◌, ◌≤◌, List, [], ◌∷◌, ◌++◌, length, set, Some, None, option_to_list, slice_get, is_some, refl, sym, ap, subst, length-append, append_assoc, arith, get_or-set_same}
use Rattle.std.proofs.lemmas.Bool.{true≢false}
use Rattle.std.proofs.lemmas.List.{take_all, take_at}
use Rattle.at_model.specs.World.{World}
use Rattle.at_value.specs.declared.operation.Op as op
use Rattle.at_value.specs.declared.reply.Path as path
use Rattle.at_line.specs.declared.line.What as what
use Rattle.at_model.specs.Step.{step, is_write}
use Rattle.at_model.specs.History.{replay}
use Rattle.at_line.specs.Lines.{history_at}
use Rattle.at_line.specs.Legal.{world_at, world_before}
use Rattle.at_view.specs.declared.view.HistoryView.{HistoryView}
use Rattle.at_event.specs.Laws.{answer_after}
use Rattle.at_event.specs.Calls.{IsPrefix, IsCall}
use Rattle.at_event.specs.Events.{EventState, Event, read, write, first_state, view_of, has_read, has_written, option_change, grown, IsEnabled, after_event, IsEventRun}
use Rattle.at_event.proofs.Serials.{one_longer}
use Rattle.at_event.proofs.Views.{live_within, IsKnown}
use Rattle.at_event.proofs.Sound.{run_knows}

-- the view that changed is there, changed
pub changed_view : (s : EventState) (v : ℕ) (change : HistoryView → HistoryView) (before : HistoryView) → view_of s v ≡ Some before → view_of (record s { views = set s.views v (option_change change (view_of s v)) }) v ≡ Some (change before)
changed_view s v change before is =
    get_or-set_same s.views v (option_change change (view_of s v)) None (live_within s.views v (ap is_some is)) ∙ ap (option_change change) is

prefix_length : (prefix whole : List op.Op) → IsPrefix prefix whole → length prefix ≤ length whole
prefix_length prefix whole is = omega (arith, ap length is.1, length-append prefix is.0)

last_operation : (history : List op.Op) (operation : op.Op) → option_to_list (slice_get (history ++ operation ∷ []) (length history)) ≡ operation ∷ []
last_operation [] operation = refl
last_operation (first ∷ history) operation = last_operation history operation

pub read_is_call : (opened : World) (events : List Event) (said : List (ℕ × what.What)) (s : EventState) (v : ℕ) (operation : op.Op) (way : path.Path) (before : HistoryView)
    → IsEventRun opened first_state events said s → IsEnabled opened s (read v operation way) → view_of s v ≡ Some before
    → (now : HistoryView) × (view_of (after_event s (read v operation way)) v ≡ Some now) × IsCall opened before operation (answer_after opened s.history (length s.history) operation way) now
read_is_call opened events said s v operation way before run (live, reads) is =
    let known = subst (IsKnown s.history v) is (run_knows opened events said s run v) in
    let whole : world_at opened s.history (length s.history) ≡ replay opened s.history = ap (replay opened) (take_all (length s.history) s.history (omega arith)) in (
      has_read s.history before,
      changed_view s v (has_read s.history) before is,
      record {
        later = record { birth = refl; more = known.1 };
        late = prefix_length before.seen s.history known.1;
        write = λ writes. absurd (true≢false (sym writes ∙ reads));
        read = λ _. record {
          seen = omega arith;
          is_so = record { replied = ap (λ w. (step w operation).reply) (sym whole); no_write = ap (λ w. is_write w operation) whole ∙ reads };
          own = refl;
        };
      },
    )

pub write_is_call : (opened : World) (events : List Event) (said : List (ℕ × what.What)) (s : EventState) (v : ℕ) (operation : op.Op) (way : path.Path) (before : HistoryView)
    → IsEventRun opened first_state events said s → IsEnabled opened s (write v operation way) → view_of s v ≡ Some before
    → (now : HistoryView) × (view_of (after_event s (write v operation way)) v ≡ Some now) × IsCall opened before operation (answer_after opened s.history (length (grown s operation)) operation way) now
write_is_call opened events said s v operation way before run (live, writes) is =
    let history = grown s operation in
    let known = subst (IsKnown s.history v) is (run_knows opened events said s run v) in
    let short = prefix_length before.seen s.history known.1 in
    let long = one_longer s.history operation in
    let before_it : world_before opened history (length history) ≡ replay opened s.history = ap (replay opened) (take_at s.history (operation ∷ []) (length history - 1) (omega arith)) in (
      has_written history before,
      changed_view s v (has_written history) before is,
      record {
        later = record { birth = refl; more = (known.1.0 ++ operation ∷ [], ap (λ xs. xs ++ operation ∷ []) known.1.1 ∙ append_assoc before.seen known.1.0 (operation ∷ [])) };
        late = omega arith;
        write = λ _. record {
          past = omega arith;
          stands = ap (λ (n : ℕ). history_at n history) long ∙ last_operation s.history operation;
          replied = ap (λ w. (step w operation).reply) (sym before_it);
          own = refl;
        };
        read = λ reads. absurd (true≢false (sym writes ∙ reads));
      },
    )
