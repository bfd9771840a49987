-- Linearized lines of one thread were done one after another, each at the end of the history so far.
use Rattle.std.proofs.Common.{inl, inr, get_or, ◌≡◌, ◌∙◌, ℕ, suc, ◌+◌, ◌-◌, ◌<◌, ◌≤◌, ◌==◌, eq-eqb, ne_eqb, Bool, true, false, List, [], ◌∷◌, ◌++◌, length, map, if◌then◌else◌, IsTrue, refl, sym, ap, subst, length-append, append_assoc, append-nil, arith}
use Rattle.std.specs.Prelude.{All, AllPairs}
use Rattle.std.proofs.lemmas.Bool.{true≢false, cases_lt}
use Rattle.std.proofs.lemmas.List.{nil_from_length}
use Rattle.std.proofs.lemmas.List.Elements.{All-cons, All-head, All-tail}
use Rattle.at_value.specs.declared.limits.Limits.{Limits}
use Rattle.at_value.specs.declared.operation.Op as op
use Rattle.at_value.specs.declared.reply.Place.{Place}
use Rattle.at_value.specs.declared.reply.Path as path
use Rattle.at_line.specs.declared.line.Line.{Line}
use Rattle.at_line.specs.declared.line.LineOp as line_op
use Rattle.at_line.specs.declared.line.LineOp.TheVariants as line_ops
use Rattle.at_line.specs.declared.line.LineReply as line_reply
use Rattle.at_line.specs.declared.line.LineReply.TheVariants as line_replies
use Rattle.at_line.specs.declared.line.What as what
use Rattle.at_line.specs.declared.line.What.TheVariants as whats
use Rattle.at_model.specs.World.{World}
use Rattle.at_model.specs.Step.{step, is_write}
use Rattle.at_model.specs.History.{replay}
use Rattle.at_line.specs.Lines.{what_of, is_write_reply, is_write_line, write_in, writes, write_count, operations_at, history_at}
use Rattle.at_line.specs.Legal.{world_at, world_before, IsFreePlace, IsWritePlaced, IsReadTrue, IsPlacedAfter, IsPlacedAfterInThread, IsLinearized}
use Rattle.at_line.specs.Serial.{GoesOn, Adds, IsSerial}
use Rattle.at_line.proofs.Each.{pairs-from_each_after, all-from_each_after}
use Rattle.at_line.proofs.Histories.{one_at, held_within, histories_count}
use Rattle.at_line.proofs.Placed.{placed_from_history}
use Rattle.at_line.proofs.Serials.{at_more, IsFrom, nothing_before, PlacedAfter, WriteTrue, ReadTrue, StandsFrom, Continues, cut_at, adds_weaker}

-- Places

-- lines from a place on have no write up to it
none_up_to : (place : ℕ) (lines : List Line) → All (λ (line : Line). IsFrom place line.what) lines → (q : ℕ) → q ≤ place → operations_at q (writes lines) ≡ []
none_up_to place [] from q within = refl
none_up_to place (line ∷ lines) from q within =
    in_line (none_up_to place lines (All-tail (λ (l : Line). IsFrom place l.what) line lines from) q within) line.what (All-head (λ (l : Line). IsFrom place l.what) line lines from)
  where
    in_line : operations_at q (writes lines) ≡ [] → (w : what.What) → IsFrom place w → operations_at q (write_in w ++ writes lines) ≡ []
    in_line rest (whats.Did at way (line_ops.Of o) reply) here = by_reply (is_write_reply reply) here.1
      where
        by_reply : (written : Bool) → (IsTrue written → place < at.0) → operations_at q ((if written then (at.0, o) ∷ [] else []) ++ writes lines) ≡ []
        by_reply true above =
            let beyond : place < at.0 = above refl in
            ap (λ (b : Bool). if b then o ∷ operations_at q (writes lines) else operations_at q (writes lines)) (ne_eqb at.0 q (λ same. omega arith)) ∙ rest
        by_reply false above = rest
    in_line rest (whats.Did at way (line_ops.Begin first second) reply) here = rest
    in_line rest (whats.Did at way line_ops.Finish reply) here = rest
    in_line rest (whats.Local local) here = rest

-- what may stand after a line may stand from its place
from_place : (n : ℕ) (place : Place) (way : path.Path) (operation : line_op.LineOp) (reply : line_reply.LineReply) → n ≤ place.0 → (w : what.What) → IsPlacedAfter (whats.Did place way operation reply) w → IsFrom n w
from_place n place way operation reply less (whats.Did second second_way second_operation second_reply) after = (omega (arith, after.0), λ written. omega (arith, after.1 written))
from_place n place way operation reply less (whats.Local local) after = tt

all_after : (n : ℕ) (line : Line) (lines : List Line) → ((w : what.What) → IsPlacedAfter line.what w → IsFrom n w) → AllPairs PlacedAfter (line ∷ lines) → All (λ (l : Line). IsFrom n l.what) lines
all_after n line lines from rising k d within = from (get_or lines k d).what (rising 0 (suc k) d (omega arith) (omega arith))

-- Histories

-- a history has nothing at the place after it
none_after : (history : List op.Op) → history_at (suc (length history)) history ≡ []
none_after [] = refl
none_after (o ∷ history) = none_after history

-- the operation at the place after a prefix is the first of the rest
next_of : (history rest : List op.Op) (o : op.Op) (more : List op.Op) → history_at (suc (length history)) (history ++ rest) ≡ o ∷ more → (after : List op.Op) × (rest ≡ o ∷ after)
next_of [] [] o more is = absurd cc
next_of [] (p ∷ rest) o more is = let same : p ≡ o = cc in (rest, ap (λ q. q ∷ rest) same)
next_of (h ∷ history) rest o more is = next_of history rest o more is

-- an operation at the head of a list may stand at the end of the list before it
joins : (here : Bool) (o : op.Op) (before after : List op.Op) → (before ++ (if here then o ∷ [] else [])) ++ after ≡ before ++ (if here then o ∷ after else after)
joins true o before after = append_assoc before (o ∷ []) after
joins false o before after = append_assoc before [] after

module _ (opened : World) (last history : List op.Op) (line : Line) (lines : List Line) (on : Continues opened last (line ∷ lines) history) where
  -- past a line that isn't a write the history is the same
  continues_past : write_in line.what ≡ [] → Continues opened last lines history
  continues_past none = record {
    prefix = on.prefix;
    places = λ q. ap (λ ws. history_at q history ++ operations_at q (ws ++ writes lines)) (sym none) ∙ on.places q;
    count = ap (λ ws. length history + length (ws ++ writes lines)) (sym none) ∙ on.count;
    writes_true = All-tail (WriteTrue opened last) line lines on.writes_true;
    reads_true = All-tail (ReadTrue opened last) line lines on.reads_true;
    from = All-tail (StandsFrom opened (length history)) line lines on.from;
    rising = λ i j d before within. on.rising (suc i) (suc j) d (omega arith) (omega arith);
  }

  module _ (place : ℕ) (o : op.Op) (one : write_in line.what ≡ (place, o) ∷ []) where
    -- what stands at each place, with the write first
    with_write : (q : ℕ) → history_at q history ++ (if place == q then o ∷ operations_at q (writes lines) else operations_at q (writes lines)) ≡ history_at q last
    with_write q = ap (λ ws. history_at q history ++ operations_at q (ws ++ writes lines)) (sym one) ∙ on.places q

    -- and at its own
    at_place : history_at place history ++ o ∷ operations_at place (writes lines) ≡ history_at place last
    at_place = ap (λ (b : Bool). history_at place history ++ (if b then o ∷ operations_at place (writes lines) else operations_at place (writes lines))) (sym (eq-eqb place place refl)) ∙ with_write place

    -- a write has a place that the last history has
    write_within : place ≤ length last
    write_within = (held_within place last (omega (arith, ap length at_place, length-append (history_at place history) (o ∷ operations_at place (writes lines))))).1

    -- at the place after the history its operation is what the last history has there
    write_next : place ≡ suc (length history) → (after : List op.Op) × (on.prefix.0 ≡ o ∷ after)
    write_next at =
        let none : history_at place history ≡ [] = ap (λ (n : ℕ). history_at n history) at ∙ none_after history in
        let there : history_at place last ≡ o ∷ operations_at place (writes lines) = sym at_place ∙ ap (λ os. os ++ o ∷ operations_at place (writes lines)) none in
        next_of history on.prefix.0 o (operations_at place (writes lines)) (ap (λ (n : ℕ). history_at n (history ++ on.prefix.0)) (sym at) ∙ (ap (history_at place) (sym on.prefix.1) ∙ there))

    places_beyond : place ≡ suc (length history) → (q : ℕ) → history_at q (history ++ o ∷ []) ++ operations_at q (writes lines) ≡ history_at q last
    places_beyond at q =
        ap (λ os. os ++ operations_at q (writes lines)) (at_more q history o ∙ ap (λ (n : ℕ). history_at q history ++ (if n == q then o ∷ [] else [])) (sym at))
        ∙ (joins (place == q) o (history_at q history) (operations_at q (writes lines)) ∙ with_write q)

    -- past a write at the place after the history the history is longer
    continues_beyond : place ≡ suc (length history) → ((w : what.What) → IsPlacedAfter line.what w → IsFrom place w) → Continues opened last lines (history ++ o ∷ [])
    continues_beyond at from =
        let longer : length (history ++ o ∷ []) ≡ length history + 1 = length-append history (o ∷ []) in
        let counted : length history + suc (write_count lines) ≡ length last = ap (λ ws. length history + length (ws ++ writes lines)) (sym one) ∙ on.count in
        let next = write_next at in
        record {
          prefix = (next.0, on.prefix.1 ∙ (ap (λ rest. history ++ rest) next.1 ∙ sym (append_assoc history (o ∷ []) next.0)));
          places = places_beyond at;
          count = omega arith;
          writes_true = All-tail (WriteTrue opened last) line lines on.writes_true;
          reads_true = All-tail (ReadTrue opened last) line lines on.reads_true;
          from = all_after (length (history ++ o ∷ [])) line lines (λ w after. subst (λ (n : ℕ). IsFrom n w) (let e : place ≡ length (history ++ o ∷ []) = omega arith in e) (from w after)) on.rising;
          rising = λ i j d before within. on.rising (suc i) (suc j) d (omega arith) (omega arith);
        }

module _ (opened : World) (last : List op.Op) where
  -- lines that go on from a history, all from a place on, leave no place between
  no_gap : (history : List op.Op) (lines : List Line) (place : ℕ) → Continues opened last lines history → All (StandsFrom opened place) lines → place ≤ length last → place ≤ length history
  no_gap history lines place on from within = elim (cases_lt (length history) place) [
    | inr at ↦ at
    | inl beyond ↦
        let there : length (history_at (suc (length history)) last) ≡ 1 = one_at (length history) last (omega arith) in
        let none : history_at (suc (length history)) last ≡ [] =
        sym (on.places (suc (length history))) ∙ (ap (λ os. os ++ operations_at (suc (length history)) (writes lines)) (none_after history) ∙ none_up_to place lines from (suc (length history)) (omega arith)) in
        absurd (omega (arith, ap length none))
  ]

  ends : (history : List op.Op) → Continues opened last [] history → history ≡ last
  ends history on =
      let none : on.prefix.0 ≡ [] = nil_from_length on.prefix.0 (omega (arith, on.count, ap length on.prefix.1, length-append history on.prefix.0)) in
      sym (on.prefix.1 ∙ (ap (λ rest. history ++ rest) none ∙ append-nil history))

  module _ (history : List op.Op) (thread number : ℕ) (lines : List Line) where
    abbrev line_of : what.What → Line
    line_of w = record { what = w; number = number; thread = thread }

    -- a line that isn't a write stands at the end of the history
    at_end : (place : Place) (way : path.Path) (operation : line_op.LineOp) (reply : line_reply.LineReply) → is_write_line (whats.Did place way operation reply) ≡ false → place.0 ≤ length last
        → Continues opened last (line_of (whats.Did place way operation reply) ∷ lines) history → place.0 ≡ length history
    at_end place way operation reply reads within on =
        let this : Line = line_of (whats.Did place way operation reply) in
        let from = All-head (StandsFrom opened (length history)) this lines on.from in
        let first : IsFrom place.0 this.what = (omega arith, λ wrote. absurd (true≢false (sym wrote ∙ reads))) in
        let back = no_gap history (this ∷ lines) place.0 on (All-cons (StandsFrom opened place.0) this lines first (all_after place.0 this lines (from_place place.0 place way operation reply (omega arith)) on.rising)) within in
        omega (arith, from.0)

    -- and a write at the place after it
    at_next : (place : Place) (way : path.Path) (o : op.Op) (reply : line_reply.LineReply) → is_write_reply reply ≡ true → place.0 ≤ length last
        → Continues opened last (line_of (whats.Did place way (line_ops.Of o) reply) ∷ lines) history → place.0 ≡ suc (length history)
    at_next place way o reply wrote within on =
        let this : Line = line_of (whats.Did place way (line_ops.Of o) reply) in
        let above : length history < place.0 = (All-head (StandsFrom opened (length history)) this lines on.from).1 wrote in
        let first : IsFrom (place.0 - 1) this.what = (omega arith, λ _. omega arith) in
        let back = no_gap history (this ∷ lines) (place.0 - 1) on
        (All-cons (StandsFrom opened (place.0 - 1)) this lines first (all_after (place.0 - 1) this lines (from_place (place.0 - 1) place way (line_ops.Of o) reply (omega arith)) on.rising)) (omega arith) in
        omega arith

    -- an operation adds its line to the history
    adds_operation : (place : Place) (way : path.Path) (o : op.Op) (reply : line_reply.LineReply) (written : Bool) → is_write_reply reply ≡ written
        → Continues opened last (line_of (whats.Did place way (line_ops.Of o) reply) ∷ lines) history → Adds opened (Continues opened last lines) history (whats.Did place way (line_ops.Of o) reply)
    adds_operation place way o reply true wrote on =
        let this : Line = line_of (whats.Did place way (line_ops.Of o) reply) in
        let one : write_in this.what ≡ (place.0, o) ∷ [] = ap (λ (b : Bool). if b then (place.0, o) ∷ [] else []) wrote in
        let at : place.0 ≡ suc (length history) = at_next place way o reply wrote (write_within opened last history this lines on place.0 o one) on in
        let is = (All-head (WriteTrue opened last) this lines on.writes_true) wrote in
        let before : world_before opened last place.0 ≡ replay opened history = cut_at opened last history on.prefix.0 (place.0 - 1) on.prefix.1 (omega arith) in (
          is.0 ∙ ap (λ w. line_replies.Of (step w o).reply) before,
          subst (λ (b : Bool). GoesOn (Continues opened last lines) b history place.0 o) (sym is.1 ∙ ap (λ w. is_write w o) before)
              (at, continues_beyond opened last history this lines on place.0 o one at (from_place place.0 place way (line_ops.Of o) reply (omega arith))),
        )
    adds_operation place way o reply false reads on =
        let this : Line = line_of (whats.Did place way (line_ops.Of o) reply) in
        let is = (All-head (ReadTrue opened last) this lines on.reads_true) reads in
        let at : place.0 ≡ length history = at_end place way (line_ops.Of o) reply reads is.0 on in
        let here : world_at opened last place.0 ≡ replay opened history = cut_at opened last history on.prefix.0 place.0 on.prefix.1 at in (
          is.1 ∙ ap (λ w. line_replies.Of (step w o).reply) here,
          subst (λ (b : Bool). GoesOn (Continues opened last lines) b history place.0 o) (sym is.2 ∙ ap (λ w. is_write w o) here)
              (at, continues_past opened last history this lines on (ap (λ (b : Bool). if b then (place.0, o) ∷ [] else []) reads)),
        )

    adds : (w : what.What) → Continues opened last (line_of w ∷ lines) history → Adds opened (Continues opened last lines) history w
    adds (whats.Did place way (line_ops.Of o) reply) on = adds_operation place way o reply (is_write_reply reply) refl on
    adds (whats.Did place way (line_ops.Begin first second) reply) on =
        let this : Line = line_of (whats.Did place way (line_ops.Begin first second) reply) in
        (at_end place way (line_ops.Begin first second) reply refl (All-head (ReadTrue opened last) this lines on.reads_true) on, continues_past opened last history this lines on refl)
    adds (whats.Did place way line_ops.Finish reply) on =
        let this : Line = line_of (whats.Did place way line_ops.Finish reply) in
        (at_end place way line_ops.Finish reply refl (All-head (ReadTrue opened last) this lines on.reads_true) on, continues_past opened last history this lines on refl)
    adds (whats.Local local) on = continues_past opened last history (line_of (whats.Local local)) lines on refl

  -- lines that go on from a history to the last lead there
  pub continues_serially : (lines : List Line) (history : List op.Op) → Continues opened last lines history → IsSerial opened history (map what_of lines) last
  continues_serially [] history on = ends history on
  continues_serially (line ∷ lines) history on =
      adds_weaker opened (Continues opened last lines) (λ longer. IsSerial opened longer (map what_of lines) last) history line.what (λ longer rest. continues_serially lines longer rest) (adds history line.thread line.number lines line.what on)

-- no write has place 0
write_from : (count : ℕ) (before : List Line) (line : Line) → IsWritePlaced count before line → IsFrom 0 line.what
write_from count before line placed = in_line line.what placed
  where
    in_line : (w : what.What) → All (λ (write : ℕ × op.Op). IsFreePlace count (writes before) write.0) (write_in w) → IsFrom 0 w
    in_line (whats.Did place way (line_ops.Of o) reply) free = (omega arith, by_reply (is_write_reply reply) free)
      where
        by_reply : (written : Bool) → All (λ (write : ℕ × op.Op). IsFreePlace count (writes before) write.0) (if written then (place.0, o) ∷ [] else []) → IsTrue written → 0 < place.0
        by_reply true each wrote = (All-head (λ (write : ℕ × op.Op). IsFreePlace count (writes before) write.0) (place.0, o) [] each).0
        by_reply false each wrote = absurd (true≢false (sym wrote))
    in_line (whats.Did place way (line_ops.Begin first second) reply) free = (omega arith, λ wrote. absurd (true≢false (sym wrote)))
    in_line (whats.Did place way line_ops.Finish reply) free = (omega arith, λ wrote. absurd (true≢false (sym wrote)))
    in_line (whats.Local local) free = tt

-- in lines of one thread places rise from line to line
one_thread_rising : (thread : ℕ) (lines : List Line) → All (λ (line : Line). line.thread ≡ thread) lines → AllPairs IsPlacedAfterInThread lines → AllPairs PlacedAfter lines
one_thread_rising thread lines of_thread pairs i j d before within = pairs i j d before within (of_thread i d (omega arith) ∙ sym (of_thread j d within))

pub one_thread_serial : (opened : World) (limits : Limits) (thread : ℕ) (lines : List Line) (history : List op.Op) → IsLinearized opened limits history lines → All (λ (line : Line). line.thread ≡ thread) lines
    → IsSerial opened [] (map what_of lines) history
one_thread_serial opened limits thread lines history linearized of_thread =
    let count : length history ≡ write_count lines = histories_count lines history linearized.places in
    continues_serially opened history lines [] (record {
      prefix = (history, refl);
      places = λ q. sym (nothing_before q (operations_at q (writes lines))) ∙ linearized.places q;
      count = omega arith;
      writes_true = linearized.writes;
      reads_true = λ k d within. subst (λ (n : ℕ). IsReadTrue opened history n (get_or lines k d).what) (sym count) (linearized.reads k d within).0;
      from = all-from_each_after (IsWritePlaced (write_count lines)) (λ (line : Line). IsFrom 0 line.what) lines (write_from (write_count lines)) (placed_from_history lines history linearized.places);
      rising = one_thread_rising thread lines of_thread (pairs-from_each_after IsPlacedAfterInThread lines linearized.rising);
    })
