-- Serial runs are linearized, plain runs are legal, and legal runs of one block are serial.
use Rattle.std.proofs.Common.{◌≡◌, ◌*◌, ◌∙◌, refl, sym, ap, subst, ℕ, suc, ◌+◌, ◌≤◌, arith, inl, Bool, true, false, List, [], ◌∷◌, ◌++◌, length, length-append, map, get_or, if◌then◌else◌}
use Rattle.std.specs.Prelude.{All}
use Rattle.std.proofs.lemmas.List.Elements.{All-nil, All-cons, All-weaker}
use Rattle.at_value.specs.ProgramLimits.{program_limits}
use Rattle.at_value.specs.declared.operation.Op as op
use Rattle.at_model.specs.declared.last.Final as final
use Rattle.at_line.specs.declared.line.Line.{Line}
use Rattle.at_line.specs.declared.line.LineOp.TheVariants as line_ops
use Rattle.at_line.specs.declared.line.Local.TheVariants as locals
use Rattle.at_line.specs.declared.line.What as what
use Rattle.at_line.specs.declared.line.What.TheVariants as whats
use Rattle.at_line.specs.Legal.{IsKeptAlone, IsLimitMet}
use Rattle.at_script.specs.Limits.{most_threads}
use Rattle.at_line.specs.Lines.{main_thread, what_of, is_write_reply, write_in, writes, write_count}
use Rattle.at_line.specs.Kept.{whats_of_thread}
use Rattle.at_line.specs.Paths.{IsLocked, IsPathAllowed}
use Rattle.at_line.specs.Serial.{NamesNoLimit, AreInOrder, AreByThread}
use Rattle.at_line.proofs.Serials.{serial_is_linearized}
use Rattle.at_line.proofs.OneThread.{one_thread_serial}
use Rattle.at_line.proofs.SerialSections.{serial_kept}
use Rattle.at_script.specs.Limits as limits
use Rattle.at_script.specs.Parts.{ScriptParts}
use Rattle.at_thread.specs.Runs.{numbered_lines, unbound}
use Rattle.at_thread.proofs.Alone.{alone_lines, numbered_length}
use Rattle.at_thread.proofs.Leading.{short}
use Rattle.at_event.proofs.OneThread.{serial_events}
use Rattle.at_run.specs.Opening.{opening_of, limits_of}
use Rattle.at_run.specs.PlainRun.{IsUndisturbed, IsPlainRun}
use Rattle.at_run.specs.LegalRun.{IsLegalRun}
use Rattle.at_run.specs.Laws.{SerialRunsAreEvents, SerialRunsAreLinearized, LegalRunsOfOneBlockAreSerial}
use Rattle.at_run.proofs.InOrder.{whole_in_order, whole_by_thread}

-- Serial runs

unlimited : (w : what.What) → IsUndisturbed w → NamesNoLimit w
unlimited (whats.Did place path o r) h = tt
unlimited (whats.Local locals.Depth) h = tt
unlimited (whats.Local locals.Budget) h = tt
unlimited (whats.Local locals.Kind) h = tt
unlimited (whats.Local (locals.Unbound variable)) h = tt
unlimited (whats.Local locals.NotCallable) h = tt
unlimited (whats.Local (locals.Worn sequence)) h = h
unlimited (whats.Local (locals.Full place)) h = h

kept : (thread : ℕ) (w : what.What) → IsUndisturbed w → IsKeptAlone thread w
kept thread (whats.Did place path (line_ops.Of o) r) h = tt
kept thread (whats.Did place path (line_ops.Begin a b) r) h = tt
kept thread (whats.Did place path line_ops.Finish r) h = λ alone. h
kept thread (whats.Local l) h = tt

pub serial_run_linearized : SerialRunsAreLinearized
serial_run_linearized s lines ends run few =
    let says : ℕ → List what.What = λ thread. whats_of_thread thread lines in
    let order : AreInOrder lines = subst AreInOrder (sym run.runs.order) (whole_in_order (length s.threads) says few) in
    let by_thread : AreByThread lines = subst AreByThread (sym run.runs.order) (whole_by_thread (length s.threads) says few) in (
      serial_is_linearized (opening_of s) (limits_of s) lines run.history order run.serial
          (All-weaker (λ (line : Line). IsUndisturbed line.what) (λ (line : Line). NamesNoLimit line.what) (λ line. unlimited line.what) lines run.undisturbed)
          (All-weaker (λ (line : Line). IsUndisturbed line.what) (λ (line : Line). IsKeptAlone line.thread line.what) (λ line. kept line.thread line.what) lines run.undisturbed),
      serial_kept (opening_of s) lines run.history by_thread run.serial,
    )

pub serial_run_events : SerialRunsAreEvents
serial_run_events s lines ends run = serial_events (opening_of s) (map what_of lines) run.history run.serial

-- Plain runs

-- What goes under locks may go so: this holds as long as the ways that a legal list may have are these alone.
locked_is_allowed : (w : what.What) → IsLocked w → IsPathAllowed w
locked_is_allowed (whats.Did place path o r) h = h
locked_is_allowed (whats.Local l) h = tt

pub plain_is_legal : (s : ScriptParts) (lines : List Line) (last : final.Final) → length s.threads ≤ most_threads → IsPlainRun s lines last → IsLegalRun s lines last
plain_is_legal s lines last few run =
    let both = serial_run_linearized s lines last run.serial_run few in
    record {
      history = run.serial_run.history;
      under = record {
        runs = run.serial_run.runs;
        legal = record {
          linearized = both.0;
          paths = All-weaker (λ (line : Line). IsLocked line.what) (λ (line : Line). IsPathAllowed line.what) (λ line. locked_is_allowed line.what) lines run.locked;
        };
        kept = both.1;
      };
      ends = run.serial_run.ends;
    }

-- Legal runs of one block

of_main : (from : ℕ) (says : List what.What) → All (λ (line : Line). line.thread ≡ main_thread) (numbered_lines main_thread from says)
of_main from [] = All-nil (λ (line : Line). line.thread ≡ main_thread)
of_main from (w ∷ says) = All-cons (λ (line : Line). line.thread ≡ main_thread) (record { what = w; number = from; thread = main_thread }) (numbered_lines main_thread (suc from) says) refl (of_main (suc from) says)

-- the limits of the program are out of the reach of one block
undisturbed : (thread writes_made count : ℕ) (w : what.What) → thread ≡ main_thread → IsKeptAlone thread w → IsLimitMet program_limits writes_made count w → writes_made ≤ count → count ≤ 2 * limits.most_budget + 1 → IsUndisturbed w
undisturbed thread writes_made count (whats.Did place path (line_ops.Of o) r) main alone met few short = tt
undisturbed thread writes_made count (whats.Did place path (line_ops.Begin a b) r) main alone met few short = tt
undisturbed thread writes_made count (whats.Did place path line_ops.Finish r) main alone met few short = alone (inl main)
undisturbed thread writes_made count (whats.Local locals.Depth) main alone met few short = tt
undisturbed thread writes_made count (whats.Local locals.Budget) main alone met few short = tt
undisturbed thread writes_made count (whats.Local locals.Kind) main alone met few short = tt
undisturbed thread writes_made count (whats.Local (locals.Unbound variable)) main alone met few short = tt
undisturbed thread writes_made count (whats.Local locals.NotCallable) main alone met few short = tt
undisturbed thread writes_made count (whats.Local (locals.Worn sequence)) main alone met few short = let from = met.0 in let most = met.1 in absurd (omega arith)
undisturbed thread writes_made count (whats.Local (locals.Full place)) main alone met few short = let from = met.0 in let most = met.1 in absurd (omega arith)

-- a list of lines has no more writes than lines
one_write : (w : what.What) → length (write_in w) ≤ 1
one_write (whats.Did place path (line_ops.Of o) r) = by_reply (is_write_reply r)
  where
    by_reply : (written : Bool) → length {A = ℕ × op.Op} (if written then (place.0, o) ∷ [] else []) ≤ 1
    by_reply true = omega arith
    by_reply false = omega arith
one_write (whats.Did place path (line_ops.Begin a b) r) = omega arith
one_write (whats.Did place path line_ops.Finish r) = omega arith
one_write (whats.Local l) = omega arith

few_writes : (lines : List Line) → write_count lines ≤ length lines
few_writes [] = omega arith
few_writes (line ∷ lines) =
    let here = one_write line.what in
    let rest = few_writes lines in
    let both : length (write_in line.what ++ writes lines) ≡ length (write_in line.what) + length (writes lines) = length-append (write_in line.what) (writes lines) in
    omega arith

pub legal_run_serial : LegalRunsOfOneBlockAreSerial
legal_run_serial s lines ends threads finally budget run =
    let l = run.under.legal.linearized in
    let says = whats_of_thread main_thread lines in
    let is : lines ≡ numbered_lines main_thread 1 says = alone_lines s lines threads finally run.under.runs in
    let main : All (λ (line : Line). line.thread ≡ main_thread) lines = subst (All (λ (line : Line). line.thread ≡ main_thread)) (sym is) (of_main 1 says) in
    let executed = run.under.runs.main in
    let few = short s s.main (unbound s) says executed.end executed.runs in
    let long : length lines ≡ length says = ap length is ∙ numbered_length main_thread 1 says in
    let writes_made = few_writes lines in
    let begun = few.0 in
    let within = few.1 in
    record {
      runs = run.under.runs;
      history = run.history;
      serial = one_thread_serial (opening_of s) (limits_of s) main_thread lines run.history l main;
      undisturbed = λ k d there. undisturbed (get_or lines k d).thread (write_count lines) (length lines) (get_or lines k d).what (main k d there) (l.reads k d there).1 (l.limits_met k d there) writes_made (omega arith);
      ends = run.ends;
    }
