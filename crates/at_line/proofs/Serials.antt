-- Lines at the end of the history so far: each part of being legal that speaks of no limit follows.
use Rattle.std.proofs.Common.{inl, inr, get_or, ◌≡◌, ◌∙◌, ℕ, zero, suc, ◌+◌, ◌-◌, ◌<◌, ◌≤◌, ◌==◌, Bool, true, false, List, [], ◌∷◌, ◌++◌, length, map, take, option_to_list, if◌then◌else◌, slice_get, IsTrue, refl, sym, ap, subst, length-append, append_assoc, append-nil, arith}
use Rattle.std.specs.Prelude.{All, AllPairs}
use Rattle.std.proofs.lemmas.Bool.{true≢false}
use Rattle.std.proofs.lemmas.Bool.{cases_lt, cases_eq}
use Rattle.std.proofs.lemmas.List.{take_at, get_or_default, get_or-take, length-take-le}
use Rattle.std.proofs.lemmas.List.Elements.{All-nil, All-cons, All-weaker, All-take}
use Rattle.std.proofs.lemmas.Option.{slice_get_within, get_or_from_slice_get, slice_get-get_or}
use Rattle.std.proofs.lemmas.List.Kept.{AllPairs-cons}
use Rattle.std.proofs.Math.Dec.{eqb-suc-zero, eqb-zero-suc, eqb-suc-suc}
use Rattle.at_value.specs.declared.limits.Limits.{Limits}
use Rattle.at_value.specs.declared.operation.Op as op
use Rattle.at_value.specs.declared.reply.Place.{Place}
use Rattle.at_value.specs.declared.reply.Path as path
use Rattle.at_line.specs.declared.line.Line.{Line}
use Rattle.at_line.specs.declared.line.LineOp.TheVariants as line_ops
use Rattle.at_line.specs.declared.line.LineReply as line_reply
use Rattle.at_line.specs.declared.line.LineReply.TheVariants as line_replies
use Rattle.at_line.specs.declared.line.Local.TheVariants as locals
use Rattle.at_line.specs.declared.line.What as what
use Rattle.at_line.specs.declared.line.What.TheVariants as whats
use Rattle.at_model.specs.World.{World}
use Rattle.at_model.specs.Step.{step, is_write}
use Rattle.at_model.specs.History.{replay}
use Rattle.at_line.specs.Lines.{EachAfter, what_of, is_write_reply, is_write_line, write_in, writes, write_count, operations_at, history_at, IsHistory}
use Rattle.at_line.specs.Legal.{world_at, world_before, IsWriteTrue, IsReadTrue, IsKeptAlone, IsPlacedAfter, IsPlacedAfterInThread, IsPlacedFrom, RunsAfter, IsInTurn, IsLimitMet, AreWritesTrue, AreRising, AreInTurn, IsLinearized}
use Rattle.at_line.proofs.Each.{each_after-from_pairs}
use Rattle.at_line.specs.Serial.{GoesOn, Adds, IsSerial, NamesNoLimit, AreInOrder}

get_more : (history : List op.Op) (i : ℕ) (o : op.Op) → option_to_list (slice_get (history ++ o ∷ []) i) ≡ option_to_list (slice_get history i) ++ (if length history == i then o ∷ [] else [])
get_more [] zero o = refl
get_more [] (suc i) o = rw (eqb-zero-suc i)
get_more (h ∷ history) zero o = rw (eqb-suc-zero (length history))
get_more (h ∷ history) (suc i) o = rw (eqb-suc-suc (length history) i) (get_more history i o)

-- a longer history has one operation more, at its own place
pub at_more : (place : ℕ) (history : List op.Op) (o : op.Op) → history_at place (history ++ o ∷ []) ≡ history_at place history ++ (if suc (length history) == place then o ∷ [] else [])
at_more zero history o = rw (eqb-suc-zero (length history))
at_more (suc i) history o = rw (eqb-suc-suc (length history) i) (get_more history i o)

first_of_more : (b : Bool) (o : op.Op) (more : List op.Op) → (if b then o ∷ more else more) ≡ (if b then o ∷ [] else []) ++ more
first_of_more true o more = refl
first_of_more false o more = refl

-- the line may stand after this place
abbrev pub IsFrom : ℕ → what.What → Type 0
IsFrom n (whats.Did place path operation reply) = (n ≤ place.0) × (IsTrue (is_write_line (whats.Did place path operation reply)) → n < place.0)
IsFrom n (whats.Local local) = Unit {0}

is_from_less : (m n : ℕ) → m ≤ n → (w : what.What) → IsFrom n w → IsFrom m w
is_from_less m n less (whats.Did place path operation reply) from = (let at = from.0 in omega arith, λ written. let at = from.1 written in omega arith)
is_from_less m n less (whats.Local local) from = tt

-- nothing stands at a place of no write
pub nothing_before : (place : ℕ) (more : List op.Op) → more ≡ history_at place [] ++ more
nothing_before zero more = refl
nothing_before (suc before) more = refl

abbrev pub PlacedAfter : Line → Line → Type 0
PlacedAfter first second = IsPlacedAfter first.what second.what

module _ (opened : World) where
  -- the parts, by line
  abbrev pub WriteTrue : List op.Op → Line → Type 0
  WriteTrue last line = IsWriteTrue opened last line.what

  abbrev pub ReadTrue : List op.Op → Line → Type 0
  ReadTrue last line = IsReadTrue opened last (length last) line.what

  abbrev pub StandsFrom : ℕ → Line → Type 0
  StandsFrom n line = IsFrom n line.what

  module _ (last : List op.Op) where
    -- the lines that go on from a history to the last
    pub record Continues (lines : List Line) (history : List op.Op) : Type 0 where
      pub prefix : (rest : List op.Op) × (last ≡ history ++ rest)
      pub places : (place : ℕ) → history_at place history ++ operations_at place (writes lines) ≡ history_at place last
      pub count : length history + write_count lines ≡ length last
      pub writes_true : All (WriteTrue last) lines
      pub reads_true : All (ReadTrue last) lines
      pub from : All (StandsFrom (length history)) lines
      pub rising : AllPairs PlacedAfter lines

  module _ (last history : List op.Op) (thread number : ℕ) (lines : List Line) where
    abbrev line_of : what.What → Line
    line_of w = record { what = w; number = number; thread = thread }

    -- a line that isn't a write leaves the history as it is
    continues_at : (w : what.What) → write_in w ≡ [] → IsWriteTrue opened last w → IsReadTrue opened last (length last) w → IsFrom (length history) w
        → ((v : what.What) → IsFrom (length history) v → IsPlacedAfter w v) → Continues last lines history → Continues last (line_of w ∷ lines) history
    continues_at w none true_write true_read from after on = record {
      prefix = on.prefix;
      places = λ place. ap (λ ws. history_at place history ++ operations_at place (ws ++ writes lines)) none ∙ on.places place;
      count = ap (λ ws. length history + length (ws ++ writes lines)) none ∙ on.count;
      writes_true = All-cons (WriteTrue last) (line_of w) lines true_write on.writes_true;
      reads_true = All-cons (ReadTrue last) (line_of w) lines true_read on.reads_true;
      from = All-cons (StandsFrom (length history)) (line_of w) lines from on.from;
      rising = AllPairs-cons PlacedAfter (line_of w) lines (All-weaker (StandsFrom (length history)) (PlacedAfter (line_of w)) (λ (line : Line) at. after line.what at) lines on.from) on.rising;
    }

    -- a write makes the history longer
    continues_after : (w : what.What) (place : ℕ) (o : op.Op) → write_in w ≡ (place, o) ∷ [] → place ≡ suc (length history) → IsWriteTrue opened last w → IsReadTrue opened last (length last) w → IsFrom (length history) w
        → ((v : what.What) → IsFrom (suc (length history)) v → IsPlacedAfter w v) → Continues last lines (history ++ o ∷ []) → Continues last (line_of w ∷ lines) history
    continues_after w place o one at true_write true_read from after on =
        let longer : length (history ++ o ∷ []) ≡ length history + 1 = length-append history (o ∷ []) in
        let counted = on.count in
        record {
          prefix = (o ∷ [] ++ on.prefix.0, on.prefix.1 ∙ append_assoc history (o ∷ []) on.prefix.0);
          places = λ p. ap (λ ws. history_at p history ++ operations_at p (ws ++ writes lines)) one
              ∙ (ap (λ (x : ℕ). history_at p history ++ (if x == p then o ∷ operations_at p (writes lines) else operations_at p (writes lines))) at
              ∙ (ap (λ xs. history_at p history ++ xs) (first_of_more (suc (length history) == p) o (operations_at p (writes lines)))
              ∙ (sym (append_assoc (history_at p history) (if suc (length history) == p then o ∷ [] else []) (operations_at p (writes lines)))
              ∙ (ap (λ xs. xs ++ operations_at p (writes lines)) (sym (at_more p history o)) ∙ on.places p))));
          count = ap (λ ws. length history + length (ws ++ writes lines)) one ∙ omega arith;
          writes_true = All-cons (WriteTrue last) (line_of w) lines true_write on.writes_true;
          reads_true = All-cons (ReadTrue last) (line_of w) lines true_read on.reads_true;
          from = All-cons (StandsFrom (length history)) (line_of w) lines from (All-weaker (StandsFrom (length (history ++ o ∷ []))) (StandsFrom (length history)) (λ (line : Line) there. is_from_less (length history) (length (history ++ o ∷ [])) (omega arith) line.what there) lines on.from);
          rising = AllPairs-cons PlacedAfter (line_of w) lines (All-weaker (StandsFrom (length (history ++ o ∷ []))) (PlacedAfter (line_of w)) (λ (line : Line) there. after line.what (subst (λ (n : ℕ). IsFrom n line.what) (let e : length (history ++ o ∷ []) ≡ suc (length history) = omega arith in e) there)) lines on.from) on.rising;
        }

  -- the last history up to the length of one that it goes on from
  pub cut_at : (last history rest : List op.Op) (n : ℕ) → last ≡ history ++ rest → n ≡ length history → replay opened (take n last) ≡ replay opened history
  cut_at last history rest n whole at = ap (replay opened) (ap (λ xs. take n xs) whole ∙ take_at history rest n (sym at))

  module _ (last history : List op.Op) (thread number : ℕ) (lines : List Line) (place : Place) (way : path.Path) (o : op.Op) (reply : line_reply.LineReply) (told : reply ≡ line_replies.Of (step (replay opened history) o).reply) where
    line_written : is_write_reply reply ≡ is_write (replay opened history) o
    line_written = ap is_write_reply told

    abbrev this : what.What
    this = whats.Did place way (line_ops.Of o) reply

    continues_by_test : (written : Bool) → is_write (replay opened history) o ≡ written → GoesOn (Continues last lines) written history place.0 o
        → Continues last (line_of last history thread number lines this ∷ lines) history
    continues_by_test true wrote (at, on) =
        let same : is_write_reply reply ≡ true = line_written ∙ wrote in
        let before : world_before opened last place.0 ≡ replay opened history = cut_at last history (o ∷ [] ++ on.prefix.0) (place.0 - 1) (on.prefix.1 ∙ append_assoc history (o ∷ []) on.prefix.0) (omega (arith, at)) in
        continues_after last history thread number lines this place.0 o (ap (λ (b : Bool). if b then (place.0, o) ∷ [] else []) same) at
        (λ _. (told ∙ ap (λ w. line_replies.Of (step w o).reply) (sym before), ap (λ w. is_write w o) before ∙ wrote))
        (λ reads. absurd (true≢false (sym same ∙ reads)))
        (omega (arith, at), λ _. omega (arith, at))
        (λ v there. on_from v there)
        on
      where
        on_from : (v : what.What) → IsFrom (suc (length history)) v → IsPlacedAfter this v
        on_from (whats.Did second second_path operation second_reply) there = (omega (arith, at, there.0), λ second_written. omega (arith, at, there.1 second_written))
        on_from (whats.Local local) there = tt
    continues_by_test false reads (at, on) =
        let same : is_write_reply reply ≡ false = line_written ∙ reads in
        let here : world_at opened last place.0 ≡ replay opened history = cut_at last history on.prefix.0 place.0 on.prefix.1 at in
        let long : length history ≤ length last = omega (arith, on.count) in
        continues_at last history thread number lines this (ap (λ (b : Bool). if b then (place.0, o) ∷ [] else []) same)
        (λ wrote. absurd (true≢false (sym wrote ∙ same)))
        (λ _. (omega (arith, at, long), told ∙ ap (λ w. line_replies.Of (step w o).reply) (sym here), ap (λ w. is_write w o) here ∙ reads))
        (omega (arith, at), λ wrote. absurd (true≢false (sym wrote ∙ same)))
        (λ v there. on_from v there)
        on
      where
        on_from : (v : what.What) → IsFrom (length history) v → IsPlacedAfter this v
        on_from (whats.Did second second_path operation second_reply) there = (omega (arith, at, there.0), λ second_written. omega (arith, at, there.1 second_written))
        on_from (whats.Local local) there = tt

  -- the begin or the end of a section
  continues_section : (last history : List op.Op) (thread number : ℕ) (lines : List Line) (place : Place) (w : what.What)
      → write_in w ≡ [] → IsWriteTrue opened last w → (place.0 ≤ length last → IsReadTrue opened last (length last) w) → (length history ≤ place.0 → IsFrom (length history) w)
      → ((v : what.What) → IsFrom place.0 v → IsPlacedAfter w v)
      → place.0 ≡ length history → Continues last lines history → Continues last (line_of last history thread number lines w ∷ lines) history
  continues_section last history thread number lines place w none true_write true_read from after at on =
      let long : length history ≤ length last = omega (arith, on.count) in
      continues_at last history thread number lines w none true_write (true_read (omega (arith, at, long))) (from (omega (arith, at))) (λ v there. after v (subst (λ (n : ℕ). IsFrom n v) (sym at) there)) on

  continues : (last history : List op.Op) (thread number : ℕ) (lines : List Line) (w : what.What) → Adds opened (Continues last lines) history w → Continues last (line_of last history thread number lines w ∷ lines) history
  continues last history thread number lines (whats.Did place way (line_ops.Of o) reply) (told, on) =
      continues_by_test last history thread number lines place way o reply told (is_write (replay opened history) o) refl on
  continues last history thread number lines (whats.Did place way (line_ops.Begin a b) reply) (at, on) =
      continues_section last history thread number lines place (whats.Did place way (line_ops.Begin a b) reply) refl tt (λ e. e) (λ e. (e, λ wrote. absurd (true≢false (sym wrote)))) after at on
    where
      after : (v : what.What) → IsFrom place.0 v → IsPlacedAfter (whats.Did place way (line_ops.Begin a b) reply) v
      after (whats.Did second second_path operation second_reply) there = there
      after (whats.Local local) there = tt
  continues last history thread number lines (whats.Did place way line_ops.Finish reply) (at, on) =
      continues_section last history thread number lines place (whats.Did place way line_ops.Finish reply) refl tt (λ e. e) (λ e. (e, λ wrote. absurd (true≢false (sym wrote)))) after at on
    where
      after : (v : what.What) → IsFrom place.0 v → IsPlacedAfter (whats.Did place way line_ops.Finish reply) v
      after (whats.Did second second_path operation second_reply) there = there
      after (whats.Local local) there = tt
  continues last history thread number lines (whats.Local local) on =
      continues_at last history thread number lines (whats.Local local) refl tt tt tt (λ v there. tt) on

  -- what follows a line may be said for the rest of the lines
  pub adds_weaker : (one other : List op.Op → Type 0) (history : List op.Op) (w : what.What) → ((longer : List op.Op) → one longer → other longer) → Adds opened one history w → Adds opened other history w
  adds_weaker one other history (whats.Did place way (line_ops.Of o) reply) f (told, on) = (told, goes_on (is_write (replay opened history) o) on)
    where
      goes_on : (written : Bool) → GoesOn one written history place.0 o → GoesOn other written history place.0 o
      goes_on true (at, more) = (at, f (history ++ o ∷ []) more)
      goes_on false (at, more) = (at, f history more)
  adds_weaker one other history (whats.Did place way (line_ops.Begin a b) reply) f (at, on) = (at, f history on)
  adds_weaker one other history (whats.Did place way line_ops.Finish reply) f (at, on) = (at, f history on)
  adds_weaker one other history (whats.Local local) f on = f history on

  pub serial_continues : (lines : List Line) (history last : List op.Op) → IsSerial opened history (map what_of lines) last → Continues last lines history
  serial_continues [] history last s = record {
    prefix = ([], sym s ∙ sym (append-nil history));
    places = λ place. append-nil (history_at place history) ∙ ap (history_at place) s;
    count = omega (arith, ap length s);
    writes_true = All-nil (WriteTrue last);
    reads_true = All-nil (ReadTrue last);
    from = All-nil (StandsFrom (length history));
    rising = λ i j d before within. absurd (omega arith);
  }
  serial_continues (line ∷ lines) history last s =
      continues last history line.thread line.number lines line.what (adds_weaker (λ longer. IsSerial opened longer (map what_of lines) last) (Continues last lines) history line.what (λ longer rest. serial_continues lines longer last rest) s)

  -- what lines that lead from no write to a history say of it, whatever their threads
  pub record AreSerial (lines : List Line) (history : List op.Op) : Type 0 where
    pub places : IsHistory lines history
    pub count : write_count lines ≡ length history
    pub writes_true : AreWritesTrue opened history lines
    pub reads_true : All (λ (line : Line). IsReadTrue opened history (write_count lines) line.what) lines
    pub rising : AllPairs PlacedAfter lines

  pub are_serial : (lines : List Line) (history : List op.Op) → IsSerial opened [] (map what_of lines) history → AreSerial lines history
  are_serial lines history s =
      let on = serial_continues lines [] history s in
      let count : write_count lines ≡ length history = omega (arith, on.count) in
      record {
        places = λ place. nothing_before place (operations_at place (writes lines)) ∙ on.places place;
        count = count;
        writes_true = on.writes_true;
        reads_true = subst (λ (n : ℕ). All (λ (line : Line). IsReadTrue opened history n line.what) lines) (sym count) on.reads_true;
        rising = on.rising;
      }

meets_no_limit : (limits : Limits) (writes_made lines : ℕ) (w : what.What) → NamesNoLimit w → IsLimitMet limits writes_made lines w
meets_no_limit limits writes_made lines (whats.Did place way operation reply) none = tt
meets_no_limit limits writes_made lines (whats.Local locals.Depth) none = tt
meets_no_limit limits writes_made lines (whats.Local locals.Budget) none = tt
meets_no_limit limits writes_made lines (whats.Local locals.Kind) none = tt
meets_no_limit limits writes_made lines (whats.Local (locals.Unbound variable)) none = tt
meets_no_limit limits writes_made lines (whats.Local locals.NotCallable) none = tt
meets_no_limit limits writes_made lines (whats.Local (locals.Worn sequence)) none = absurd none
meets_no_limit limits writes_made lines (whats.Local (locals.Full place)) none = absurd none

-- no thread runs after itself
never_after : (thread first second : ℕ) → first ≡ thread → second ≡ thread → RunsAfter first second → ⊥
never_after thread first second is_first is_second (inl (is_main, after, before)) = omega arith
never_after thread first second is_first is_second (inr (other, last)) = other (is_first ∙ (sym is_second ∙ last))

-- lines of one thread are in order
pub one_thread_in_order : (thread : ℕ) (lines : List Line) → All (λ (line : Line). line.thread ≡ thread) lines → AreInOrder lines
one_thread_in_order thread lines of_thread i j d before within = λ after.
    never_after thread (get_or lines j d).thread (get_or lines i d).thread (of_thread j d within) (of_thread i d (omega arith)) after

-- where places rise from line to line, they rise in each thread
pub rising-from_pairs : (lines : List Line) → AllPairs PlacedAfter lines → AreRising lines
rising-from_pairs lines pairs = each_after-from_pairs IsPlacedAfterInThread lines (λ i j d before within. λ same. pairs i j d before within)

pub placed_from : (first second : what.What) → IsPlacedAfter first second → IsPlacedFrom first second
placed_from (whats.Did first first_path first_operation first_reply) (whats.Did second path operation reply) after = after.0
placed_from (whats.Did first first_path first_operation first_reply) (whats.Local local) after = tt
placed_from (whats.Local local) second after = tt

-- and where the threads stand in order too, they are in turn
pub in_turn-from_pairs : (lines : List Line) → AllPairs PlacedAfter lines → AreInOrder lines → AreInTurn lines
in_turn-from_pairs lines pairs order k d within i e there after =
    let line : Line = get_or lines k d in
    let first : Line = get_or lines i d in
    let same : get_or lines i e ≡ first = get_or_default lines i e d there in
    let runs : RunsAfter first.thread line.thread = subst (λ (l : Line). RunsAfter l.thread line.thread) same after in
    let P : Line → Type 0 = λ l. IsPlacedFrom l.what line.what in
    elim (cases_lt i k) [
      | inl before ↦ subst P (sym same) (placed_from first.what line.what (pairs i k d before within))
      | inr from ↦
          elim (cases_eq i k) [
            | inl at ↦ absurd (never_after line.thread first.thread line.thread (ap (λ (n : ℕ). (get_or lines n d).thread) at) refl runs)
            | inr other ↦ absurd (order k i d (omega arith) there runs)
          ]
    ]

pub serial_is_linearized : (opened : World) (limits : Limits) (lines : List Line) (history : List op.Op) → AreInOrder lines → IsSerial opened [] (map what_of lines) history
    → All (λ (line : Line). NamesNoLimit line.what) lines → All (λ (line : Line). IsKeptAlone line.thread line.what) lines
    → IsLinearized opened limits history lines
serial_is_linearized opened limits lines history order serial no_limit kept =
    let are = are_serial opened lines history serial in
    record {
      places = are.places;
      writes = are.writes_true;
      reads = λ k d within. (are.reads_true k d within, kept k d within);
      rising = rising-from_pairs lines are.rising;
      turns = in_turn-from_pairs lines are.rising order;
      limits_met = λ k d within. meets_no_limit limits (write_count lines) (length lines) (get_or lines k d).what (no_limit k d within);
    }

-- In turn, line by line

pub turns-by_line : (lines : List Line) → AreInTurn lines → EachAfter IsInTurn lines
turns-by_line lines turns i line at =
    let within : i < length lines = slice_get_within lines i line at in
    let here : IsInTurn lines line = subst (IsInTurn lines) (get_or_from_slice_get lines i line line at) (turns i line within) in
    All-take (λ (first : Line). RunsAfter first.thread line.thread → IsPlacedFrom first.what line.what) i lines here

pub turns-from_lines : (lines : List Line) → AreInOrder lines → EachAfter IsInTurn lines → AreInTurn lines
turns-from_lines lines order each k d within i e there after =
    let line : Line = get_or lines k d in
    let first : Line = get_or lines i d in
    let same : get_or lines i e ≡ first = get_or_default lines i e d there in
    let runs : RunsAfter first.thread line.thread = subst (λ (l : Line). RunsAfter l.thread line.thread) same after in
    elim (cases_lt i k) [
      | inl before ↦
          let long : i < length (take k lines) = omega (arith, length-take-le k lines (omega arith)) in
          let taken : get_or (take k lines) i d ≡ first = get_or-take k lines i d before in
          let from : IsPlacedFrom (get_or (take k lines) i d).what line.what =
          each k line (slice_get-get_or lines k d within) i d long (subst (λ (l : Line). RunsAfter l.thread line.thread) (sym taken) runs) in
          subst (λ (l : Line). IsPlacedFrom l.what line.what) (taken ∙ sym same) from
      | inr from ↦
          elim (cases_eq i k) [
            | inl at ↦ absurd (never_after line.thread first.thread line.thread (ap (λ (n : ℕ). (get_or lines n d).thread) at) refl runs)
            | inr other ↦ absurd (order k i d (omega arith) there runs)
          ]
    ]
