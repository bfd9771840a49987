-- Blocks that run one after another on the plain data model are the plain run of their script.
use Rattle.std.proofs.Common.{◌≡◌, ◌∙◌, refl, sym, ap, subst, ℕ, zero, suc, ◌+◌, ◌-◌, ◌*◌, ◌^◌, ◌<◌, ◌≤◌, nat_le, arith, Bool, true, false, List, [], ◌∷◌, ◌++◌, length, map, get_or, slice_get, Some, None, append-nil, append_assoc, length-append, suc-mul}
use Rattle.std.specs.Prelude.{All}
use Rattle.std.proofs.lemmas.Bool.{ne_eqb, leb-true, leb-false}
use Rattle.std.proofs.lemmas.List.{get_or_append_left, map-append}
use Rattle.std.proofs.lemmas.Option.{slice_get_within}
use Rattle.std.proofs.Math.Seq.{get_or-append_seam}
use Rattle.std.proofs.lemmas.List.Elements.{All-nil, All-append, All-weaker}
use Rattle.at_model.specs.Final.{final_of}
use Rattle.at_line.specs.Types.{Line, What}
use Rattle.at_line.specs.Kept.{whats_of_thread}
use Rattle.at_line.specs.Lines.{main_thread, finally_thread, what_of}
use Rattle.at_line.specs.Paths.{IsLocked}
use Rattle.at_line.specs.Serial.{IsSerial}
use Rattle.at_world.specs.Plain.{PlainState}
use Rattle.at_script.specs.declared.stmt.Stmt.{Stmt}
use Rattle.at_script.specs.Limits as limits
use Rattle.at_script.specs.Parts.{ScriptParts}
use Rattle.at_thread.specs.Execution.{ThreadState, Variables, start}
use Rattle.at_thread.specs.Executions.{Leads}
use Rattle.at_thread.specs.Runs.{numbered_lines, lines_in_order, unbound, Executes, IsRunOf}
use Rattle.at_thread.proofs.Alone.{numbered_length}
use Rattle.at_thread.proofs.Counts.{same_count}
use Rattle.at_thread.proofs.Numbering.{own, others, whats_of_both, whats_of_numbered}
use Rattle.at_run.specs.Opening.{opening_of}
use Rattle.at_run.specs.PlainRun.{IsUndisturbed}
use Rattle.at_run.specs.Turns.{IsPlain}
use Rattle.at_run.specs.Blocks.{RunsBlock, lines_of_logs, AreSerial, SoFar, Stands, IsWholeRun, most_of}
use Rattle.at_run.proofs.Serial.{serial_append}
use Rattle.at_run.proofs.Turning.{all_numbered}

-- The lines of threads

-- one thread more
more_logs : (thread next : ℕ) (logs : List (List What)) (says : List What) → next ≡ thread + length logs → lines_of_logs thread (logs ++ says ∷ []) ≡ lines_of_logs thread logs ++ numbered_lines next 1 says
more_logs thread next [] says at = append-nil (numbered_lines thread 1 says) ∙ ap (λ (t : ℕ). numbered_lines t 1 says) (let e : thread ≡ next = omega arith in e)
more_logs thread next (first ∷ logs) says at =
    ap (λ (ls : List Line). numbered_lines thread 1 first ++ ls) (more_logs (suc thread) next logs says (omega arith))
    ∙ sym (append_assoc (numbered_lines thread 1 first) (lines_of_logs (suc thread) logs) (numbered_lines next 1 says))

-- a thread before the first has no line
none_before : (t thread : ℕ) (logs : List (List What)) → t < thread → whats_of_thread t (lines_of_logs thread logs) ≡ []
none_before t thread [] less = refl
none_before t thread (says ∷ logs) less =
    whats_of_both t (numbered_lines thread 1 says) (lines_of_logs (suc thread) logs)
    ∙ (ap (λ (ws : List What). ws ++ whats_of_thread t (lines_of_logs (suc thread) logs)) (others t thread 1 says (ne_eqb thread t (λ same. absurd (omega arith))))
    ∙ none_before t (suc thread) logs (omega arith))

-- nor has one after the last
none_after : (t thread : ℕ) (logs : List (List What)) → thread + length logs ≤ t → whats_of_thread t (lines_of_logs thread logs) ≡ []
none_after t thread [] more = refl
none_after t thread (says ∷ logs) more =
    whats_of_both t (numbered_lines thread 1 says) (lines_of_logs (suc thread) logs)
    ∙ (ap (λ (ws : List What). ws ++ whats_of_thread t (lines_of_logs (suc thread) logs)) (others t thread 1 says (ne_eqb thread t (λ same. absurd (omega arith))))
    ∙ none_after t (suc thread) logs (omega arith))

-- each of the others has its own
each_has : (t thread i : ℕ) (logs : List (List What)) → t ≡ thread + i → i < length logs → whats_of_thread t (lines_of_logs thread logs) ≡ get_or logs i []
each_has t thread i [] at there = absurd (omega arith)
each_has t thread zero (says ∷ logs) at there =
    let same : thread ≡ t = omega arith in
    whats_of_both t (numbered_lines thread 1 says) (lines_of_logs (suc thread) logs)
    ∙ (ap (λ (ws : List What). ws ++ whats_of_thread t (lines_of_logs (suc thread) logs)) (subst (λ (n : ℕ). whats_of_thread t (numbered_lines n 1 says) ≡ says) (sym same) (own t 1 says))
    ∙ (ap (λ (ws : List What). says ++ ws) (none_before t (suc thread) logs (omega arith)) ∙ append-nil says))
each_has t thread (suc i) (says ∷ logs) at there =
    whats_of_both t (numbered_lines thread 1 says) (lines_of_logs (suc thread) logs)
    ∙ (ap (λ (ws : List What). ws ++ whats_of_thread t (lines_of_logs (suc thread) logs)) (others t thread 1 says (ne_eqb thread t (λ same. absurd (omega arith))))
    ∙ each_has t (suc thread) i logs (omega arith) (omega arith))

-- lines of which each thread has its own stand in order
in_order : (lines : List Line) (thread : ℕ) (logs : List (List What)) → ((i : ℕ) → i < length logs → whats_of_thread (thread + i) lines ≡ get_or logs i [])
    → lines_in_order (length logs) thread (λ t. whats_of_thread t lines) ≡ lines_of_logs thread logs
in_order lines thread [] each = refl
in_order lines thread (says ∷ logs) each =
    let here : whats_of_thread thread lines ≡ says = subst (λ (t : ℕ). whats_of_thread t lines ≡ says) (let e : thread + 0 ≡ thread = omega arith in e) (each 0 (omega arith)) in
    ap (λ (ws : List What). numbered_lines thread 1 ws ++ lines_in_order (length logs) (suc thread) (λ t. whats_of_thread t lines)) here
    ∙ ap (λ (ls : List Line). numbered_lines thread 1 says ++ ls)
    (in_order lines (suc thread) logs (λ i there. subst (λ (t : ℕ). whats_of_thread t lines ≡ get_or logs i []) (let e : thread + suc i ≡ suc thread + i = omega arith in e) (each (suc i) (omega arith))))

-- One block

module _ (p : ScriptParts) (thread : ℕ) (statements : List Stmt) (variables : Variables) (s t : ThreadState) (w v : PlainState) (before after : List Line) (begins : s ≡ start statements variables) (block : RunsBlock p thread s w before t v after) where
  -- its lines are an execution
  executes : Executes p statements variables block.says t.variables
  executes = record {
    end = t;
    runs = (block.ends, block.leading.steps, subst (λ (x : ThreadState). Leads p block.leading.steps x block.says t) begins block.leading.leads);
    leaves = refl;
  }

  -- at its end there are as many variables
  pub count : length t.variables ≡ length variables
  count = same_count p block.leading.steps s block.says t block.leading.leads ∙ ap (λ (x : ThreadState). length x.variables) begins

  -- there is a line for each that it says
  longer : length after ≡ length before + length block.says
  longer = ap length block.lines ∙ (length-append before (numbered_lines thread 1 block.says) ∙ ap (λ (n : ℕ). length before + n) (numbered_length thread 1 block.says))

  -- its lines are serial after those before
  serial_after : AreSerial p w before → length before + length block.says < 2 ^ 64 → AreSerial p v after
  serial_after first room =
      let short = first.short in
      let on = block.leading.becomes first.history first.world (omega arith) in
      let more = on.short in
      let long = longer in
      let said : map what_of after ≡ map what_of before ++ block.says =
      ap (map what_of) block.lines ∙ (map-append what_of before (numbered_lines thread 1 block.says) ∙ ap (λ (ws : List What). map what_of before ++ ws) (whats_of_numbered thread 1 block.says)) in
      record {
        history = on.history;
        serial = subst (λ (ws : List What). IsSerial (opening_of p) [] ws on.history) (sym said) (serial_append (opening_of p) (map what_of before) block.says [] first.history on.history first.serial on.serial);
        short = omega arith;
        world = on.world;
        plain = subst (All (λ (line : Line). IsPlain line.what)) (sym block.lines) (All-append (λ (line : Line). IsPlain line.what) before (numbered_lines thread 1 block.says) first.plain (all_numbered IsPlain thread 1 block.says block.leading.plain));
      }

-- Where the run stands

-- no line was written, and the world is the opening one
pub none_serial : (p : ScriptParts) (w : PlainState) → w ≡ record { world = opening_of p; place = 0 } → AreSerial p w []
none_serial p w is = record {
  history = [];
  serial = refl;
  short = omega arith;
  world = (ap (λ (x : PlainState). x.world) is, ap (λ (x : PlainState). x.place) is);
  plain = All-nil (λ (line : Line). IsPlain line.what);
}

-- `main` has run
pub after_main : (p : ScriptParts) (s t : ThreadState) (w v : PlainState) (after : List Line) (capacity : ℕ) → s ≡ start p.main (unbound p) → w ≡ record { world = opening_of p; place = 0 } → RunsBlock p main_thread s w [] t v after
    → (length p.threads + 2) * most_of p ≡ capacity → p.budget ≤ limits.most_budget → length p.threads ≤ limits.most_threads → Stands p t.variables 0 v after capacity t
after_main p s t w v after capacity begins opens block room budget threads =
    let few = block.few in
    let long : length after ≡ 0 + length block.says = longer p main_thread p.main (unbound p) s t w v [] after begins block in
    let parts : (length p.threads + 2) * most_of p ≡ (length p.threads + 1 - 0) * most_of p + most_of p =
    ap (λ (n : ℕ). n * most_of p) (let e : length p.threads + 2 ≡ suc (length p.threads + 1 - 0) = omega arith in e) ∙ suc-mul (length p.threads + 1 - 0) (most_of p) in
    record {
      so_far = record {
        main = block.says;
        logs = [];
        count = refl;
        are = block.lines ∙ sym (append-nil (numbered_lines main_thread 1 block.says));
        main_runs = executes p main_thread p.main (unbound p) s t w v [] after begins block;
        threads_run = λ i statements there. absurd (omega arith);
        serial = serial_after p main_thread p.main (unbound p) s t w v [] after begins block (none_serial p w opens) (omega arith);
        long = omega arith;
      };
      room = omega arith;
      same = refl;
      budget = budget;
      threads = threads;
    }

-- what each thread has run, with one thread more
threads_more : (p : ScriptParts) (variables : Variables) (done next : ℕ) (logs : List (List What)) (says : List What) (statements : List Stmt) (after : Variables) → length logs ≡ done → next ≡ done + 1
    → slice_get p.threads done ≡ Some statements → Executes p statements variables says after
    → ((i : ℕ) (block : List Stmt) → i < done → slice_get p.threads i ≡ Some block → (v : Variables) × Executes p block variables (get_or logs i []) v)
    → (i : ℕ) (block : List Stmt) → i < next → slice_get p.threads i ≡ Some block → (v : Variables) × Executes p block variables (get_or (logs ++ says ∷ []) i []) v
threads_more p variables done next logs says statements after counted at there runs each i block below is = tests (nat_le done i) refl
  where
    tests : (b : Bool) → nat_le done i ≡ b → (v : Variables) × Executes p block variables (get_or (logs ++ says ∷ []) i []) v
    tests true e =
        let above : done ≤ i = leb-true done i e in
        let last : i ≡ length logs = omega arith in
        let here : slice_get p.threads i ≡ Some statements = ap (slice_get p.threads) (let d : i ≡ done = omega arith in d) ∙ there in
        let same : statements ≡ block = cc in
        let told : get_or (logs ++ says ∷ []) i [] ≡ says = ap (λ (k : ℕ). get_or (logs ++ says ∷ []) k []) last ∙ get_or-append_seam logs says [] [] in
        (after, subst (λ (ws : List What). Executes p block variables ws after) (sym told) (subst (λ (b : List Stmt). Executes p b variables says after) same runs))
    tests false e =
        let less : i < done = leb-false done i e in
        let old = each i block less is in
        (old.0, subst (λ (ws : List What). Executes p block variables ws old.0) (sym (get_or_append_left logs (says ∷ []) [] i (omega arith))) old.1)

-- one thread more has run
pub after_thread : (p : ScriptParts) (variables : Variables) (done next : ℕ) (statements : List Stmt) (s t r : ThreadState) (w v : PlainState) (before after : List Line) (capacity : ℕ) → Stands p variables done w before capacity r
    → slice_get p.threads done ≡ Some statements → done < length p.threads → next ≡ done + 1 → s ≡ start statements variables → RunsBlock p next s w before t v after → Stands p variables next v after capacity t
after_thread p variables done next statements s t r w v before after capacity stands there less at begins block =
    let so = stands.so_far in
    let few = block.few in
    let long_before = so.long in
    let room = stands.room in
    let budget = stands.budget in
    let threads = stands.threads in
    let counted = so.count in
    let long : length after ≡ length before + length block.says = longer p next statements variables s t w v before after begins block in
    let parts : (length p.threads + 1 - done) * most_of p ≡ (length p.threads + 1 - next) * most_of p + most_of p =
    ap (λ (n : ℕ). n * most_of p) (let e : length p.threads + 1 - done ≡ suc (length p.threads + 1 - next) = omega arith in e) ∙ suc-mul (length p.threads + 1 - next) (most_of p) in
    let logs = so.logs ++ block.says ∷ [] in
    let more : length logs ≡ length so.logs + 1 = length-append so.logs (block.says ∷ []) in
    record {
      so_far = record {
        main = so.main;
        logs = logs;
        count = omega arith;
        are = block.lines ∙ (ap (λ (ls : List Line). ls ++ numbered_lines next 1 block.says) so.are ∙ sym (more_logs main_thread next (so.main ∷ so.logs) block.says (omega arith)));
        main_runs = so.main_runs;
        threads_run = threads_more p variables done next so.logs block.says statements t.variables so.count at there (executes p next statements variables s t w v before after begins block) so.threads_run;
        serial = serial_after p next statements variables s t w v before after begins block so.serial (omega arith);
        long = omega arith;
      };
      room = omega arith;
      same = sym (count p next statements variables s t w v before after begins block);
      budget = budget;
      threads = threads;
    }

-- The whole run

module _ (p : ScriptParts) (variables : Variables) (w v : PlainState) (before after : List Line) (told : List What) (so : SoFar p variables (length p.threads) w before) (few : length p.threads ≤ limits.most_threads) (are : after ≡ before ++ numbered_lines finally_thread 1 told) where
  -- each thread has its own lines
  of_thread : (i : ℕ) → i < length (so.main ∷ so.logs) → whats_of_thread i after ≡ get_or (so.main ∷ so.logs) i []
  of_thread i there =
      let counted = so.count in
      ap (whats_of_thread i) are
      ∙ (whats_of_both i before (numbered_lines finally_thread 1 told)
      ∙ (ap (λ (ws : List What). whats_of_thread i before ++ ws) (others i finally_thread 1 told (ne_eqb finally_thread i (λ same. absurd (omega arith))))
      ∙ (append-nil (whats_of_thread i before) ∙ (ap (whats_of_thread i) so.are ∙ each_has i main_thread i (so.main ∷ so.logs) (omega arith) there))))

  each_own : (i : ℕ) → i < length (so.main ∷ so.logs) → whats_of_thread (main_thread + i) after ≡ get_or (so.main ∷ so.logs) i []
  each_own i there = subst (λ (t : ℕ). whats_of_thread t after ≡ get_or (so.main ∷ so.logs) i []) (let e : i ≡ main_thread + i = omega arith in e) (of_thread i there)

  -- and so has `finally`
  of_finally : whats_of_thread finally_thread after ≡ told
  of_finally =
      let counted = so.count in
      ap (whats_of_thread finally_thread) are
      ∙ (whats_of_both finally_thread before (numbered_lines finally_thread 1 told)
      ∙ (ap (λ (ws : List What). ws ++ whats_of_thread finally_thread (numbered_lines finally_thread 1 told)) (ap (whats_of_thread finally_thread) so.are ∙ none_after finally_thread main_thread (so.main ∷ so.logs) (omega arith))
      ∙ own finally_thread 1 told))

  stand_in_order : after ≡ lines_in_order (suc (length p.threads)) main_thread (λ thread. whats_of_thread thread after) ++ numbered_lines finally_thread 1 (whats_of_thread finally_thread after)
  stand_in_order =
      are
      ∙ (ap (λ (ls : List Line). ls ++ numbered_lines finally_thread 1 told) (so.are ∙ (sym (in_order after main_thread (so.main ∷ so.logs) each_own) ∙ ap (λ (n : ℕ). lines_in_order (suc n) main_thread (λ thread. whats_of_thread thread after)) so.count))
      ∙ ap (λ (ws : List What). lines_in_order (suc (length p.threads)) main_thread (λ thread. whats_of_thread thread after) ++ numbered_lines finally_thread 1 ws) (sym of_finally))

  run_of : ((block : List Stmt) → p.finally ≡ Some block → (end : Variables) × Executes p block variables told end) → (p.finally ≡ None → told ≡ []) → IsRunOf p after
  run_of runs none = record {
    order = stand_in_order;
    variables = variables;
    main = subst (λ (ws : List What). Executes p p.main (unbound p) ws variables) (sym (of_thread 0 (omega arith))) so.main_runs;
    threads = λ i block is.
        let there : i < length p.threads = slice_get_within p.threads i block is in
        let counted = so.count in
        let ran = so.threads_run i block there is in
        (ran.0, subst (λ (ws : List What). Executes p block variables ws ran.0) (sym (of_thread (suc i) (omega arith))) ran.1);
    finally = λ block is.
        let ran = runs block is in
        (ran.0, subst (λ (ws : List What). Executes p block variables ws ran.0) (sym of_finally) ran.1);
    no_finally = λ is. of_finally ∙ none is;
  }

  whole_run : AreSerial p v after → ((block : List Stmt) → p.finally ≡ Some block → (end : Variables) × Executes p block variables told end) → (p.finally ≡ None → told ≡ []) → IsWholeRun p v after
  whole_run serial runs none last is = record {
    serial_run = record {
      runs = run_of runs none;
      history = serial.history;
      serial = serial.serial;
      undisturbed = All-weaker (λ (line : Line). IsPlain line.what) (λ (line : Line). IsUndisturbed line.what) (λ line plain. plain.0) after serial.plain;
      ends = is ∙ ap final_of serial.world.0;
    };
    locked = All-weaker (λ (line : Line). IsPlain line.what) (λ (line : Line). IsLocked line.what) (λ line plain. plain.1) after serial.plain;
  }

-- a script without `finally`
pub without_finally : (p : ScriptParts) (variables : Variables) (w : PlainState) (lines : List Line) (capacity : ℕ) (t : ThreadState) → Stands p variables (length p.threads) w lines capacity t → p.finally ≡ None → IsWholeRun p w lines
without_finally p variables w lines capacity t stands none =
    whole_run p variables w w lines lines [] stands.so_far stands.threads (sym (append-nil lines)) stands.so_far.serial
    (λ block is. let e : None ≡ Some block = sym none ∙ is in absurd cc) (λ _. refl)

-- and one with it
pub with_finally : (p : ScriptParts) (variables : Variables) (statements : List Stmt) (s t r : ThreadState) (w v : PlainState) (before after : List Line) (capacity : ℕ) → Stands p variables (length p.threads) w before capacity r
    → p.finally ≡ Some statements → s ≡ start statements variables → RunsBlock p finally_thread s w before t v after → IsWholeRun p v after
with_finally p variables statements s t r w v before after capacity stands there begins block =
    let so = stands.so_far in
    let few = block.few in
    let long = so.long in
    let budget = stands.budget in
    let threads = stands.threads in
    whole_run p variables w v before after block.says so threads block.lines (serial_after p finally_thread statements variables s t w v before after begins block so.serial (omega arith))
    (λ other is.
    let both : Some statements ≡ Some other = sym there ∙ is in
    let same : statements ≡ other = cc in
    (t.variables, subst (λ (b : List Stmt). Executes p b variables block.says t.variables) same (executes p finally_thread statements variables s t w v before after begins block)))
    (λ none. let e : None ≡ Some statements = sym none ∙ there in absurd cc)
