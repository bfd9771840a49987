-- A script has one plain run.
use Rattle.std.proofs.Common.{◌≡◌, ◌∙◌, refl, sym, ap, subst, ℕ, zero, suc, ◌+◌, ◌<◌, ◌≤◌, ◌==◌, arith, Bool, true, false, List, [], ◌∷◌, ◌++◌, length, map, Option, Some, None, if◌then◌else◌, slice_get, get_or, append_assoc}
use Rattle.std.specs.Prelude.{All}
use Rattle.std.proofs.lemmas.Bool.{false≢true}
use Rattle.std.proofs.lemmas.List.Elements.{All-nil, All-cons, All-head, All-tail}
use Rattle.std.proofs.lemmas.List.{map-append}
use Rattle.std.proofs.lemmas.Option.{slice_get-get_or}
use Rattle.at_value.specs.Types.{Op, Path}
use Rattle.at_value.specs.declared.reply.Reply.TheVariants as replies
use Rattle.at_value.specs.declared.reply.Place.{Place}
use Rattle.at_value.specs.declared.reply.Path.TheVariants as paths
use Rattle.at_line.specs.Types.{Line, LineOp, LineReply, Local, What}
use Rattle.at_line.specs.declared.line.LineOp.TheVariants as line_ops
use Rattle.at_line.specs.declared.line.LineReply.TheVariants as line_replies
use Rattle.at_line.specs.declared.line.Local.TheVariants as locals
use Rattle.at_line.specs.declared.line.What.TheVariants as whats
use Rattle.at_line.specs.Lines.{main_thread, finally_thread, what_of}
use Rattle.at_line.specs.Kept.{whats_of_thread}
use Rattle.at_line.specs.Paths.{is_locked, IsLocked, AreLocked}
use Rattle.at_model.specs.declared.last.Final as final
use Rattle.at_model.specs.World.{World}
use Rattle.at_model.specs.Step.{step, is_write}
use Rattle.at_model.specs.History.{replay}
use Rattle.at_model.specs.Final.{final_of}
use Rattle.at_line.specs.Serial.{GoesOn, Adds, IsSerial}
use Rattle.at_script.specs.Types.{Stmt}
use Rattle.at_thread.specs.Types.{ReplyUse}
use Rattle.at_script.specs.Parts.{ScriptParts}
use Rattle.at_thread.specs.Execution.{Variables, ThreadState, Transition, ended, silent, checkpoints, says, asks, taken, next_of, start}
use Rattle.at_thread.specs.Executions.{can_reply, stands_for, Answers, Fits, Leads}
use Rattle.at_thread.specs.Runs.{numbered_lines, lines_in_order, whole, Executes, unbound}
use Rattle.at_thread.proofs.Numbering.{whats_of_numbered}
use Rattle.at_run.specs.Opening.{opening_of}
use Rattle.at_run.specs.PlainRun.{IsUndisturbed, under_locks, line_under_locks, IsSerialRun}
use Rattle.at_run.specs.Laws.{SerialRunsAreOne, PlainRunsAreOne}
use Rattle.at_run.proofs.Serial.{serial_split}

is_locked_way : (way : Path) → is_locked way ≡ true → way ≡ paths.Locked
is_locked_way paths.Locked is = refl
is_locked_way paths.Fast is = absurd (false≢true is)
is_locked_way (paths.Slow m) is = absurd (false≢true is)

module _ (opened : World) where
  -- the history after an operation
  abbrev next_history : List Op → LineOp → List Op
  next_history history (line_ops.Of o) = if is_write (replay opened history) o then history ++ o ∷ [] else history
  next_history history o = history

  -- the place and the reply of an operation that is done at the end of a history
  abbrev next_place : List Op → LineOp → ℕ
  next_place history (line_ops.Of o) = if is_write (replay opened history) o then suc (length history) else length history
  next_place history o = length history

  abbrev next_reply : List Op → LineOp → LineReply
  next_reply history (line_ops.Of o) = line_replies.Of (step (replay opened history) o).reply
  next_reply history (line_ops.Begin a b) = line_replies.Of replies.Done
  next_reply history line_ops.Finish = line_replies.Kept

  abbrev next_line : List Op → LineOp → What
  next_line history o = whats.Did (record { 0 = next_place history o }) paths.Locked o (next_reply history o)

  -- What a line of an operation is, at the end of a history, and where it leads.
  record Alone (on : List Op → Type 0) (goes : ThreadState → Type 0) (u : ReplyUse) (s : ThreadState) (history : List Op) (o : LineOp) (w : What) : Type 0 where
    pub line : under_locks w ≡ next_line history o
    pub rest : on (next_history history o)
    pub takes : goes (taken u (next_reply history o) s)

  begin_replied : (a : ℕ) (b : Option ℕ) (r : LineReply) → can_reply (line_ops.Begin a b) r ≡ true → r ≡ line_replies.Of replies.Done
  begin_replied a b (line_replies.Of replies.Done) h = refl
  begin_replied a b r h = absurd (false≢true h)

  line_is : (place : Place) (n : ℕ) (p o : LineOp) (r q : LineReply) → place.0 ≡ n → p ≡ o → r ≡ q → whats.Did place paths.Locked p r ≡ whats.Did (record { 0 = n }) paths.Locked o q
  line_is place n p o r q at same replied =
      ap (λ (m : ℕ). whats.Did (record { 0 = m }) paths.Locked p r) at
      ∙ (ap (λ (x : LineOp). whats.Did (record { 0 = n }) paths.Locked x r) same ∙ ap (λ (x : LineReply). whats.Did (record { 0 = n }) paths.Locked o x) replied)

  module _ (on : List Op → Type 0) (goes : ThreadState → Type 0) (u : ReplyUse) (s : ThreadState) (history : List Op) where
    gone : (b : Bool) (o : Op) (place : ℕ) → GoesOn on b history place o → (place ≡ (if b then suc (length history) else length history)) × on (if b then history ++ o ∷ [] else history)
    gone true o place h = h
    gone false o place h = h

    did_alone : (place : Place) (way : Path) (p o : LineOp) (r : LineReply) → p ≡ o → Adds opened on history (whats.Did place way o r) → IsUndisturbed (whats.Did place way o r) → can_reply o r ≡ true → goes (taken u r s) → Alone on goes u s history o (whats.Did place way p r)
    did_alone place way p (line_ops.Of o) r same adds plain can takes =
        let g = gone (is_write (replay opened history) o) o place.0 adds.1 in
        record {
          line = line_is place (next_place history (line_ops.Of o)) p (line_ops.Of o) r (next_reply history (line_ops.Of o)) g.0 same adds.0;
          rest = g.1;
          takes = subst (λ (q : LineReply). goes (taken u q s)) adds.0 takes;
        }
    did_alone place way p (line_ops.Begin a b) r same adds plain can takes =
        let replied = begin_replied a b r can in
        record {
          line = line_is place (length history) p (line_ops.Begin a b) r (line_replies.Of replies.Done) adds.0 same replied;
          rest = adds.1;
          takes = subst (λ (q : LineReply). goes (taken u q s)) replied takes;
        }
    did_alone place way p line_ops.Finish r same adds plain can takes = record {
      line = line_is place (length history) p line_ops.Finish r line_replies.Kept adds.0 same plain;
      rest = adds.1;
      takes = subst (λ (q : LineReply). goes (taken u q s)) plain takes;
    }

    -- no line stands in the place of an operation
    none_stands : (o : LineOp) (l : Local) → stands_for o l ≡ true → IsUndisturbed (whats.Local l) → ⊥
    none_stands o (locals.Full place) e h = h
    none_stands o (locals.Worn sequence) e h = h
    none_stands (line_ops.Of o) l e h = cc
    none_stands (line_ops.Begin a b) l e h = cc
    none_stands line_ops.Finish l e h = cc

    line_alone : (o : LineOp) (w : What) → Answers goes o u s w → Adds opened on history w → IsUndisturbed w → Alone on goes u s history o w
    line_alone o (whats.Did place way p r) answers adds plain =
        did_alone place way p o r answers.0 (subst (λ (x : LineOp). Adds opened on history (whats.Did place way x r)) answers.0 adds) (subst (λ (x : LineOp). IsUndisturbed (whats.Did place way x r)) answers.0 plain) answers.1 answers.2
    line_alone o (whats.Local l) answers adds plain = absurd (none_stands o l answers.0 plain)

  -- two lists of lines are the same, paths aside, and so are the histories and the states to which they lead
  abbrev Same : List What → List What → List Op → List Op → ThreadState → ThreadState → Type 0
  Same first second one other t u = (map under_locks first ≡ map under_locks second) × (one ≡ other) × (t ≡ u)

  module _ (on off : ThreadState → List What → Type 0) (one other : List Op) (t u : ThreadState)
      (same : (s : ThreadState) (first second : List What) (history : List Op) → on s first → off s second → IsSerial opened history first one → IsSerial opened history second other → All IsUndisturbed first → All IsUndisturbed second → Same first second one other t u) where
    both : (next : Transition) (first second : List What) (history : List Op) → Fits on next first → Fits off next second → IsSerial opened history first one → IsSerial opened history second other → All IsUndisturbed first → All IsUndisturbed second → Same first second one other t u
    both ended first second history f g a b x y = absurd f
    both (silent s) first second history f g a b x y = same s first second history f g a b x y
    both (checkpoints s) first second history f g a b x y = same s first second history f g a b x y
    both (says l s) [] second history f g a b x y = absurd f
    both (says l s) (w ∷ first) [] history f g a b x y = absurd g
    both (says l s) (w ∷ first) (v ∷ second) history f g a b x y =
        let k = same s first second history f.1 g.1
        (subst (λ z. Adds opened (λ longer. IsSerial opened longer first one) history z) f.0 a)
        (subst (λ z. Adds opened (λ longer. IsSerial opened longer second other) history z) g.0 b) (All-tail IsUndisturbed w first x) (All-tail IsUndisturbed v second y)
        in
        (ap (λ z. z ∷ map under_locks first) (ap under_locks (f.0 ∙ sym g.0)) ∙ ap (λ rest. under_locks v ∷ rest) k.0, k.1, k.2)
    both (asks o k s) [] second history f g a b x y = absurd f
    both (asks o k s) (w ∷ first) [] history f g a b x y = absurd g
    both (asks o k s) (w ∷ first) (v ∷ second) history f g a b x y =
        let m = line_alone (λ longer. IsSerial opened longer first one) (λ t. on t first) k s history o w f a (All-head IsUndisturbed w first x) in
        let n = line_alone (λ longer. IsSerial opened longer second other) (λ t. off t second) k s history o v g b (All-head IsUndisturbed v second y) in
        let r = same (taken k (next_reply history o) s) first second (next_history history o) m.takes n.takes m.rest n.rest (All-tail IsUndisturbed w first x) (All-tail IsUndisturbed v second y) in
        (ap (λ z. z ∷ map under_locks first) (m.line ∙ sym n.line) ∙ ap (λ rest. under_locks v ∷ rest) r.0, r.1, r.2)

  -- nothing leads on from a state that has ended
  stays : (p : ScriptParts) (n : ℕ) (s : ThreadState) (lines : List What) (u : ThreadState) → next_of p s ≡ ended → Leads p n s lines u → (lines ≡ []) × (s ≡ u)
  stays p zero s lines u e l = l
  stays p (suc n) s lines u e l = absurd (subst (λ (next : Transition). Fits (λ x rest. Leads p n x rest u) next lines) e l)

  nothing : (first second : List What) (history one other : List Op) → first ≡ [] → second ≡ [] → IsSerial opened history first one → IsSerial opened history second other → (map under_locks first ≡ map under_locks second) × (one ≡ other)
  nothing first second history one other f g a b = (
    ap (map under_locks) (f ∙ sym g),
    sym (subst (λ (ws : List What). IsSerial opened history ws one) f a) ∙ subst (λ (ws : List What). IsSerial opened history ws other) g b,
  )

  same_leads : (p : ScriptParts) (n m : ℕ) (s : ThreadState) (first second : List What) (t u : ThreadState) (history one other : List Op) → next_of p t ≡ ended → next_of p u ≡ ended → Leads p n s first t → Leads p m s second u
      → IsSerial opened history first one → IsSerial opened history second other → All IsUndisturbed first → All IsUndisturbed second → Same first second one other t u
  same_leads p zero m s first second t u history one other et eu l k a b x y =
      let z = stays p m s second u (ap (next_of p) l.1 ∙ et) k in
      let none = nothing first second history one other l.0 z.0 a b in
      (none.0, none.1, sym l.1 ∙ z.1)
  same_leads p (suc n) zero s first second t u history one other et eu l k a b x y =
      let z = stays p (suc n) s first t (ap (next_of p) k.1 ∙ eu) l in
      let none = nothing first second history one other z.0 k.0 a b in
      (none.0, none.1, sym z.1 ∙ k.1)
  same_leads p (suc n) (suc m) s first second t u history one other et eu l k a b x y =
      both (λ v rest. Leads p n v rest t) (λ v rest. Leads p m v rest u) one other t u
      (λ v c d h f g i j q r. same_leads p n m v c d t u h one other et eu f g i j q r) (next_of p s) first second history l k a b x y

-- One block

-- executions of a block from one history are the same, paths aside, and so are the histories to which they lead
abbrev IsBlockSame : World → List What → List What → Type 0
IsBlockSame opened first second =
    (history one other : List Op) → IsSerial opened history first one → IsSerial opened history second other → (map under_locks first ≡ map under_locks second) × (one ≡ other)

module _ (s : ScriptParts) (block : List Stmt) (before first_after second_after : Variables) (first second : List What) (a : Executes s block before first first_after) (b : Executes s block before second second_after)
    (x : All IsUndisturbed first) (y : All IsUndisturbed second) (opened : World) (history one other : List Op) (f : IsSerial opened history first one) (g : IsSerial opened history second other) where
  all_same : Same opened first second one other a.end b.end
  all_same = same_leads opened s a.runs.1 b.runs.1 (start block before) first second a.end b.end history one other a.runs.0 b.runs.0 a.runs.2 b.runs.2 f g x y

  block_same : (map under_locks first ≡ map under_locks second) × (one ≡ other)
  block_same = (all_same.0, all_same.1)

  -- and they leave the same variables
  variables_same : first_after ≡ second_after
  variables_same = sym a.leaves ∙ (ap (λ (t : ThreadState). t.variables) all_same.2 ∙ b.leaves)

-- Blocks in order

-- lines of a thread that are the same, paths aside, have the same numbers
numbered_same : (thread from : ℕ) (first second : List What) → map under_locks first ≡ map under_locks second → map line_under_locks (numbered_lines thread from first) ≡ map line_under_locks (numbered_lines thread from second)
numbered_same thread from [] [] same = refl
numbered_same thread from [] (v ∷ second) same = absurd cc
numbered_same thread from (w ∷ first) [] same = absurd cc
numbered_same thread from (w ∷ first) (v ∷ second) same =
    let heads : under_locks w ≡ under_locks v = cc in
    let rest : map under_locks first ≡ map under_locks second = cc in
    ap (λ (x : What). record { what = x; number = from; thread = thread } ∷ map line_under_locks (numbered_lines thread (suc from) first)) heads
    ∙ ap (λ ls. record { what = under_locks v; number = from; thread = thread } ∷ ls) (numbered_same thread (suc from) first second rest)

abbrev says_in_order : ℕ → ℕ → (ℕ → List What) → List What
says_in_order zero thread told = []
says_in_order (suc count) thread told = told thread ++ says_in_order count (suc thread) told

whats_in_order : (count thread : ℕ) (told : ℕ → List What) → map what_of (lines_in_order count thread told) ≡ says_in_order count thread told
whats_in_order zero thread told = refl
whats_in_order (suc count) thread told =
    map-append what_of (numbered_lines thread 1 (told thread)) (lines_in_order count (suc thread) told)
    ∙ (ap (λ ws. ws ++ map what_of (lines_in_order count (suc thread) told)) (whats_of_numbered thread 1 (told thread)) ∙ ap (λ ws. told thread ++ ws) (whats_in_order count (suc thread) told))

whats_of_whole : (count : ℕ) (told : ℕ → List What) → map what_of (whole count told) ≡ told main_thread ++ (says_in_order count 1 told ++ told finally_thread)
whats_of_whole count told =
    map-append what_of (lines_in_order (suc count) main_thread told) (numbered_lines finally_thread 1 (told finally_thread))
    ∙ (ap (λ ws. ws ++ map what_of (numbered_lines finally_thread 1 (told finally_thread))) (whats_in_order (suc count) main_thread told)
    ∙ (ap (λ ws. (told main_thread ++ says_in_order count 1 told) ++ ws) (whats_of_numbered finally_thread 1 (told finally_thread))
    ∙ append_assoc (told main_thread) (says_in_order count 1 told) (told finally_thread)))

module _ (opened : World) (first second : ℕ → List What) (one other : List Op) (more_first more_second : List What) where
  -- the lines of the threads are the same, and one history leads on from both
  record Threads (count thread : ℕ) : Type 0 where
    pub lines : map line_under_locks (lines_in_order count thread first) ≡ map line_under_locks (lines_in_order count thread second)
    pub middle : List Op
    pub on : IsSerial opened middle more_first one
    pub off : IsSerial opened middle more_second other

  threads_same : (count thread : ℕ) (history : List Op) → ((t : ℕ) → thread ≤ t → t < thread + count → IsBlockSame opened (first t) (second t))
      → IsSerial opened history (says_in_order count thread first ++ more_first) one → IsSerial opened history (says_in_order count thread second ++ more_second) other → Threads count thread
  threads_same zero thread history each f g = record { lines = refl; middle = history; on = f; off = g }
  threads_same (suc count) thread history each f g =
      let k = serial_split opened (first thread) (says_in_order count (suc thread) first ++ more_first) history one (subst (λ ws. IsSerial opened history ws one) (append_assoc (first thread) (says_in_order count (suc thread) first) more_first) f) in
      let l = serial_split opened (second thread) (says_in_order count (suc thread) second ++ more_second) history other (subst (λ ws. IsSerial opened history ws other) (append_assoc (second thread) (says_in_order count (suc thread) second) more_second) g) in
      let here = each thread (omega arith) (omega arith) history k.0 l.0 k.1 l.1 in
      let rest = threads_same count (suc thread) l.0 (λ t from below. each t (omega arith) (omega arith)) (subst (λ h. IsSerial opened h (says_in_order count (suc thread) first ++ more_first) one) here.1 k.2) l.2 in
      record {
        lines =
            map-append line_under_locks (numbered_lines thread 1 (first thread)) (lines_in_order count (suc thread) first)
            ∙ (ap (λ ls. ls ++ map line_under_locks (lines_in_order count (suc thread) first)) (numbered_same thread 1 (first thread) (second thread) here.0)
            ∙ (ap (λ ls. map line_under_locks (numbered_lines thread 1 (second thread)) ++ ls) rest.lines ∙ sym (map-append line_under_locks (numbered_lines thread 1 (second thread)) (lines_in_order count (suc thread) second))));
        middle = rest.middle;
        on = rest.on;
        off = rest.off;
      }

-- what is so of all lines is so of those of a thread
of_thread : (P : What → Type 0) (thread : ℕ) (lines : List Line) → All (λ (line : Line). P line.what) lines → All P (whats_of_thread thread lines)
of_thread P thread [] all = All-nil P
of_thread P thread (line ∷ lines) all =
    let rest = of_thread P thread lines (All-tail (λ (l : Line). P l.what) line lines all) in
    elim (line.thread == thread) as (λ (own : Bool). All P (if own then line.what ∷ whats_of_thread thread lines else whats_of_thread thread lines)) [
      | true ↦ All-cons P line.what (whats_of_thread thread lines) (All-head (λ (l : Line). P l.what) line lines all) rest
      | false ↦ rest
    ]

-- A whole run

module _ (s : ScriptParts) (first second : List Line) (first_ends second_ends : final.Final) (a : IsSerialRun s first first_ends) (b : IsSerialRun s second second_ends) where
  abbrev ws : ℕ → List What
  ws thread = whats_of_thread thread first

  abbrev vs : ℕ → List What
  vs thread = whats_of_thread thread second

  abbrev opened : World
  opened = opening_of s

  abbrev count : ℕ
  count = length s.threads

  first_undisturbed : (thread : ℕ) → All IsUndisturbed (ws thread)
  first_undisturbed thread = of_thread IsUndisturbed thread first a.undisturbed

  second_undisturbed : (thread : ℕ) → All IsUndisturbed (vs thread)
  second_undisturbed thread = of_thread IsUndisturbed thread second b.undisturbed

  first_said : map what_of first ≡ ws main_thread ++ (says_in_order count 1 ws ++ ws finally_thread)
  first_said = ap (map what_of) a.runs.order ∙ whats_of_whole count ws

  second_said : map what_of second ≡ vs main_thread ++ (says_in_order count 1 vs ++ vs finally_thread)
  second_said = ap (map what_of) b.runs.order ∙ whats_of_whole count vs

  first_main : (middle : List Op) × IsSerial opened [] (ws main_thread) middle × IsSerial opened middle (says_in_order count 1 ws ++ ws finally_thread) a.history
  first_main = serial_split opened (ws main_thread) (says_in_order count 1 ws ++ ws finally_thread) [] a.history (subst (λ said. IsSerial opened [] said a.history) first_said a.serial)

  second_main : (middle : List Op) × IsSerial opened [] (vs main_thread) middle × IsSerial opened middle (says_in_order count 1 vs ++ vs finally_thread) b.history
  second_main = serial_split opened (vs main_thread) (says_in_order count 1 vs ++ vs finally_thread) [] b.history (subst (λ said. IsSerial opened [] said b.history) second_said b.serial)

  main_same : (map under_locks (ws main_thread) ≡ map under_locks (vs main_thread)) × (first_main.0 ≡ second_main.0)
  main_same =
      block_same s s.main (unbound s) a.runs.variables b.runs.variables (ws main_thread) (vs main_thread) a.runs.main b.runs.main
      (first_undisturbed main_thread) (second_undisturbed main_thread) opened [] first_main.0 second_main.0 first_main.1 second_main.1

  same_variables : a.runs.variables ≡ b.runs.variables
  same_variables =
      variables_same s s.main (unbound s) a.runs.variables b.runs.variables (ws main_thread) (vs main_thread) a.runs.main b.runs.main
      (first_undisturbed main_thread) (second_undisturbed main_thread) opened [] first_main.0 second_main.0 first_main.1 second_main.1

  each_thread : (t : ℕ) → 1 ≤ t → t < 1 + count → IsBlockSame opened (ws t) (vs t)
  each_thread zero from below = absurd (omega arith)
  each_thread (suc i) from below =
      let block = get_or s.threads i [] in
      let is : slice_get s.threads i ≡ Some block = slice_get-get_or s.threads i [] (omega arith) in
      let x = a.runs.threads i block is in
      let y = b.runs.threads i block is in
      block_same s block a.runs.variables x.0 y.0 (ws (suc i)) (vs (suc i)) x.1 (subst (λ v. Executes s block v (vs (suc i)) y.0) (sym same_variables) y.1)
      (first_undisturbed (suc i)) (second_undisturbed (suc i)) opened

  nothing_same : ws finally_thread ≡ [] → vs finally_thread ≡ [] → IsBlockSame opened (ws finally_thread) (vs finally_thread)
  nothing_same none other_none history one other f g = nothing opened (ws finally_thread) (vs finally_thread) history one other none other_none f g

  finally_same : (block : Option (List Stmt)) → s.finally ≡ block → IsBlockSame opened (ws finally_thread) (vs finally_thread)
  finally_same None is = nothing_same (a.runs.no_finally is) (b.runs.no_finally is)
  finally_same (Some block) is =
      let x = a.runs.finally block is in
      let y = b.runs.finally block is in
      block_same s block a.runs.variables x.0 y.0 (ws finally_thread) (vs finally_thread) x.1 (subst (λ v. Executes s block v (vs finally_thread) y.0) (sym same_variables) y.1)
      (first_undisturbed finally_thread) (second_undisturbed finally_thread) opened

  threads : Threads opened ws vs a.history b.history (ws finally_thread) (vs finally_thread) count 1
  threads =
      threads_same opened ws vs a.history b.history (ws finally_thread) (vs finally_thread) count 1 second_main.0 each_thread
      (subst (λ h. IsSerial opened h (says_in_order count 1 ws ++ ws finally_thread) a.history) main_same.1 first_main.2) second_main.2

  last_same : (map under_locks (ws finally_thread) ≡ map under_locks (vs finally_thread)) × (a.history ≡ b.history)
  last_same = finally_same s.finally refl threads.middle a.history b.history threads.on threads.off

  -- the lines of `main`, those of the threads and those of `finally`, together
  with_parts : (first_lines second_lines third_lines : List Line) → map line_under_locks ((first_lines ++ second_lines) ++ third_lines) ≡ (map line_under_locks first_lines ++ map line_under_locks second_lines) ++ map line_under_locks third_lines
  with_parts first_lines second_lines third_lines =
      map-append line_under_locks (first_lines ++ second_lines) third_lines ∙ ap (λ ls. ls ++ map line_under_locks third_lines) (map-append line_under_locks first_lines second_lines)

  whole_same : map line_under_locks (whole count ws) ≡ map line_under_locks (whole count vs)
  whole_same =
      with_parts (numbered_lines main_thread 1 (ws main_thread)) (lines_in_order count 1 ws) (numbered_lines finally_thread 1 (ws finally_thread))
      ∙ (ap (λ ls. (ls ++ map line_under_locks (lines_in_order count 1 ws)) ++ map line_under_locks (numbered_lines finally_thread 1 (ws finally_thread))) (numbered_same main_thread 1 (ws main_thread) (vs main_thread) main_same.0)
      ∙ (ap (λ ls. (map line_under_locks (numbered_lines main_thread 1 (vs main_thread)) ++ ls) ++ map line_under_locks (numbered_lines finally_thread 1 (ws finally_thread))) threads.lines
      ∙ (ap (λ ls. (map line_under_locks (numbered_lines main_thread 1 (vs main_thread)) ++ map line_under_locks (lines_in_order count 1 vs)) ++ ls) (numbered_same finally_thread 1 (ws finally_thread) (vs finally_thread) last_same.0)
      ∙ sym (with_parts (numbered_lines main_thread 1 (vs main_thread)) (lines_in_order count 1 vs) (numbered_lines finally_thread 1 (vs finally_thread))))))

pub serial_unique : SerialRunsAreOne
serial_unique s first second first_ends second_ends a b = (
  ap (map line_under_locks) a.runs.order ∙ (whole_same s first second first_ends second_ends a b ∙ sym (ap (map line_under_locks) b.runs.order)),
  a.ends ∙ (ap (λ history. final_of (replay (opening_of s) history)) (last_same s first second first_ends second_ends a b).1 ∙ sym b.ends),
)

-- lines under locks are as they would be under locks
as_they_are : (w : What) → IsLocked w → under_locks w ≡ w
as_they_are (whats.Did place way o r) locked = ap (λ (p : Path). whats.Did place p o r) (sym (is_locked_way way locked))
as_they_are (whats.Local l) locked = refl

all_as_they_are : (lines : List Line) → AreLocked lines → map line_under_locks lines ≡ lines
all_as_they_are [] locked = refl
all_as_they_are (line ∷ lines) locked =
    let P : Line → Type 0 = λ l. IsLocked l.what in
    ap (λ (w : What). record line { what = w } ∷ map line_under_locks lines) (as_they_are line.what (All-head P line lines locked)) ∙ ap (λ ls. line ∷ ls) (all_as_they_are lines (All-tail P line lines locked))

pub plain_unique : PlainRunsAreOne
plain_unique s first second first_ends second_ends a b =
    let one = serial_unique s first second first_ends second_ends a.serial_run b.serial_run in
    (sym (all_as_they_are first a.locked) ∙ (one.0 ∙ all_as_they_are second b.locked), one.1)
