-- The lines of one view are legal, and how they grow.
use Rattle.std.proofs.Common.{◌≡◌, ◌∙◌, ℕ, Bool, true, false, List, [], ◌∷◌, map, get_or, set, get_or-set_same, Option, Some, None, is_some, if◌then◌else◌, refl, sym, ap, subst}
use Rattle.std.specs.Prelude.{All, IsSome}
use Rattle.std.proofs.lemmas.Bool.{true≢false}
use Rattle.std.proofs.lemmas.List.Elements.{All-cons, All-head, All-tail}
use Rattle.at_model.specs.World.{World}
use Rattle.at_value.specs.declared.limits.Limits.{Limits}
use Rattle.at_value.specs.declared.operation.Op as op
use Rattle.at_line.specs.declared.line.Line.{Line}
use Rattle.at_line.specs.declared.line.What as what
use Rattle.at_line.specs.declared.line.What.TheVariants as whats
use Rattle.at_line.specs.Lines.{main_thread, what_of}
use Rattle.at_line.specs.Legal.{IsKeptAlone, IsLinearized}
use Rattle.at_line.specs.Serial.{Adds, IsSerial}
use Rattle.at_line.proofs.Serials.{adds_weaker, one_thread_in_order, serial_is_linearized}
use Rattle.at_view.specs.declared.view.HistoryView.{HistoryView}
use Rattle.at_event.specs.Events.{EventState, Event, split, join, read, write, first_state, view_of, IsLive, grown, has_read, has_written, option_change, after_event}
use Rattle.at_event.specs.OneView.{has_place, placed, IsDoneBy, IsOneViewRun}
use Rattle.at_event.proofs.Serials.{lines_are_serial}
use Rattle.at_event.proofs.Sound.{operation_kept, run_says, lines_say}
use Rattle.at_event.proofs.Views.{live_within}

-- local lines add nothing to a history
placed_serial : (opened : World) (lines : List Line) (history last : List op.Op) → IsSerial opened history (map what_of (placed lines)) last → IsSerial opened history (map what_of lines) last
placed_serial opened [] history last s = s
placed_serial opened (line ∷ lines) history last s = cases (λ longer rest. placed_serial opened lines longer last rest) line.thread line.number line.what s
  where
    cases : ((longer : List op.Op) → IsSerial opened longer (map what_of (placed lines)) last → IsSerial opened longer (map what_of lines) last) → (thread number : ℕ) (w : what.What) → (let this : Line = record { what = w; number = number; thread = thread } in IsSerial opened history (map what_of (if has_place w then this ∷ placed lines else placed lines)) last)
        → Adds opened (λ longer. IsSerial opened longer (map what_of lines) last) history w
    cases more thread number (whats.Did place way operation reply) on =
        adds_weaker opened (λ longer. IsSerial opened longer (map what_of (placed lines)) last) (λ longer. IsSerial opened longer (map what_of lines) last) history (whats.Did place way operation reply)
        more on
    cases more thread number (whats.Local local) on = more history on

-- what is true of local lines and of the others is true of all
all_placed : (P : Line → Type 0) → ((line : Line) → has_place line.what ≡ false → P line) → (lines : List Line) → All P (placed lines) → All P lines
all_placed P local [] all = all
all_placed P local (line ∷ lines) all = by_test (λ more. all_placed P local lines more) (has_place line.what) refl all
  where
    by_test : (All P (placed lines) → All P lines) → (placed_here : Bool) → has_place line.what ≡ placed_here → All P (if placed_here then line ∷ placed lines else placed lines) → All P (line ∷ lines)
    by_test rest true is more = All-cons P line lines (All-head P line (placed lines) more) (rest (All-tail P line (placed lines) more))
    by_test rest false is more = All-cons P line lines (local line is) (rest more)

local_kept : (thread : ℕ) (w : what.What) → has_place w ≡ false → IsKeptAlone thread w
local_kept thread (whats.Did place way operation reply) is = absurd (true≢false is)
local_kept thread (whats.Local local) is = tt

pub one_view_linearized : (opened : World) (limits : Limits) (lines : List Line) (history : List op.Op) → IsOneViewRun opened lines history → IsLinearized opened limits history lines
one_view_linearized opened limits lines history one =
    let serial : IsSerial opened [] (map what_of lines) history = subst (λ last. IsSerial opened [] (map what_of lines) last) one.leads (placed_serial opened lines [] one.last.history (lines_are_serial opened first_state one.last one.events one.said (placed lines) one.run one.lines_are)) in
    let says = lines_say one.said (placed lines) one.lines_are (run_says opened one.events first_state one.last one.said one.run) in
    serial_is_linearized opened limits lines history (one_thread_in_order main_thread lines one.of_main) serial one.no_limit
    (all_placed (λ line. IsKeptAlone line.thread line.what) (λ line is. local_kept line.thread line.what is) lines (λ k d within. operation_kept (get_or (placed lines) k d).thread (get_or (placed lines) k d).what (says k d within)))

-- The first view stays live

changed_live : (change : HistoryView → HistoryView) (view : Option HistoryView) → IsSome view → IsSome (option_change change view)
changed_live change None live = live
changed_live change (Some view) live = refl

still_live : (s : EventState) (v : ℕ) (change : HistoryView → HistoryView) → v ≡ main_thread → IsLive s main_thread → IsSome (get_or (set s.views v (option_change change (view_of s v))) main_thread None)
still_live s v change is live =
    subst (λ (n : ℕ). IsSome (get_or (set s.views n (option_change change (view_of s n))) main_thread None)) (sym is)
    (ap is_some (get_or-set_same s.views main_thread (option_change change (view_of s main_thread)) None (live_within s.views main_thread live)) ∙ changed_live change (view_of s main_thread) live)

pub alone_live : (s : EventState) (event : Event) → IsDoneBy main_thread event → IsLive s main_thread → IsLive (after_event s event) main_thread
alone_live s (split v) alone live = absurd alone
alone_live s (join v other) alone live = absurd alone
alone_live s (read v operation way) alone live = still_live s v (has_read s.history) alone live
alone_live s (write v operation way) alone live = still_live s v (has_written (grown s operation)) alone live
