-- Lines have one history, which is as long as there are writes; that of true writes is proper.
use Rattle.std.proofs.Common.{◌≡◌, ◌≢◌, ◌∙◌, ℕ, zero, suc, ◌+◌, ◌-◌, ◌<◌, ◌≤◌, ◌==◌, eq-eqb, ne_eqb, cond, Bool, true, false, List, [], ◌∷◌, ◌++◌, length, take, Some, option_to_list, if◌then◌else◌, slice_get, refl, sym, ap, arith}
use Rattle.std.proofs.lemmas.Bool.{eqb-true, eqb-false}
use Rattle.std.proofs.lemmas.List.Elements.{All-head, All-tail}
use Rattle.at_value.specs.declared.operation.Op as op
use Rattle.at_line.specs.declared.line.Line.{Line}
use Rattle.at_line.specs.declared.line.LineOp.TheVariants as line_ops
use Rattle.at_line.specs.declared.line.What as what
use Rattle.at_line.specs.declared.line.What.TheVariants as whats
use Rattle.at_model.specs.World.{World}
use Rattle.at_model.specs.Step.{step, is_write}
use Rattle.at_model.specs.History.{replay, IsProper}
use Rattle.at_line.specs.Lines.{is_write_reply, write_in, writes, write_count, operations_at, history_at, IsHistory}
use Rattle.at_line.specs.Legal.{world_before, IsWriteTrue, AreWritesTrue}

-- One history

-- lists with the same at each place are the same
same_places : (first second : List op.Op) → ((place : ℕ) → history_at place first ≡ history_at place second) → first ≡ second
same_places [] [] same = refl
same_places [] (o ∷ second) same = absurd (cc (same 1))
same_places (o ∷ first) [] same = absurd (cc (same 1))
same_places (o ∷ first) (p ∷ second) same =
    let rest : first ≡ second = same_places first second (λ place. after place) in cc (same 1, rest)
  where
    after : (place : ℕ) → history_at place first ≡ history_at place second
    after zero = refl
    after (suc before) = same (suc (suc before))

pub histories_unique : (lines : List Line) (first second : List op.Op) → IsHistory lines first → IsHistory lines second → first ≡ second
histories_unique lines first second is_first is_second = same_places first second (λ place. sym (is_first place) ∙ is_second place)

-- As many as there are writes

-- how many writes stand at the places from 1 to n
abbrev pub total_at : ℕ → List (ℕ × op.Op) → ℕ
total_at zero ws = 0
total_at (suc n) ws = total_at n ws + length (operations_at (suc n) ws)

pub one_there : (place : ℕ) (w : ℕ × op.Op) (ws : List (ℕ × op.Op)) → length (operations_at place (w ∷ ws)) ≡ cond (w.0 == place) 1 0 + length (operations_at place ws)
one_there place w ws = by_test (w.0 == place)
  where
    by_test : (here : Bool) → length (if here then w.1 ∷ operations_at place ws else operations_at place ws) ≡ cond here 1 0 + length (operations_at place ws)
    by_test true = omega arith
    by_test false = omega arith

total_beyond : (n : ℕ) (w : ℕ × op.Op) (ws : List (ℕ × op.Op)) → n < w.0 → total_at n (w ∷ ws) ≡ total_at n ws
total_beyond zero w ws beyond = refl
total_beyond (suc n) w ws beyond =
    let before = total_beyond n w ws (omega arith) in
    let there = one_there (suc n) w ws in
    let none : cond {A = ℕ} (w.0 == suc n) 1 0 ≡ 0 = ap (λ (b : Bool). cond {A = ℕ} b 1 0) (ne_eqb w.0 (suc n) (λ same. omega arith)) in omega arith

pub total_within : (n : ℕ) (w : ℕ × op.Op) (ws : List (ℕ × op.Op)) → 0 < w.0 → w.0 ≤ n → total_at n (w ∷ ws) ≡ suc (total_at n ws)
total_within zero w ws positive within = absurd (omega arith)
total_within (suc n) w ws positive within = by_test (λ less. total_within n w ws positive less) (w.0 == suc n) refl
  where
    by_test : (w.0 ≤ n → total_at n (w ∷ ws) ≡ suc (total_at n ws)) → (here : Bool) → (w.0 == suc n) ≡ here
        → total_at n (w ∷ ws) + length (operations_at (suc n) (w ∷ ws)) ≡ suc (total_at n ws + length (operations_at (suc n) ws))
    by_test before true is =
        let at : w.0 ≡ suc n = eqb-true w.0 (suc n) is in
        let below = total_beyond n w ws (omega arith) in
        let there = one_there (suc n) w ws in
        let one : cond {A = ℕ} (w.0 == suc n) 1 0 ≡ 1 = ap (λ (b : Bool). cond {A = ℕ} b 1 0) is in omega arith
    by_test before false is =
        let other : w.0 ≢ suc n = eqb-false w.0 (suc n) is in
        let below = before (omega arith) in
        let there = one_there (suc n) w ws in
        let none : cond {A = ℕ} (w.0 == suc n) 1 0 ≡ 0 = ap (λ (b : Bool). cond {A = ℕ} b 1 0) is in omega arith

-- only places from 1 to its length hold something of a history
pub held_within : (place : ℕ) (history : List op.Op) → 0 < length (history_at place history) → (0 < place) × (place ≤ length history)
held_within zero history held = absurd (omega arith)
held_within (suc before) [] held = absurd (omega arith)
held_within (suc zero) (o ∷ history) held = (omega arith, omega arith)
held_within (suc (suc before)) (o ∷ history) held = let r = held_within (suc before) history held in (omega arith, omega (arith, r.1))

-- where no place has more writes than the history has there, all writes are counted
all_counted : (history : List op.Op) (ws : List (ℕ × op.Op)) → ((place : ℕ) → length (operations_at place ws) ≤ length (history_at place history)) → total_at (length history) ws ≡ length ws
all_counted history [] few = none (length history)
  where
    none : (n : ℕ) → total_at n [] ≡ 0
    none zero = refl
    none (suc n) = let before = none n in omega arith
all_counted history (w ∷ ws) few =
    let there = one_there w.0 w ws in
    let one : cond {A = ℕ} (w.0 == w.0) 1 0 ≡ 1 = ap (λ (b : Bool). cond {A = ℕ} b 1 0) (eq-eqb w.0 w.0 refl) in
    let some = few w.0 in
    let within = held_within w.0 history (omega arith) in
    let rest = all_counted history ws (λ place. let one_more = one_there place w ws in let most = few place in omega arith) in
    total_within (length history) w ws within.0 within.1 ∙ ap suc rest

pub one_at : (before : ℕ) (history : List op.Op) → before < length history → length (history_at (suc before) history) ≡ 1
one_at before [] within = absurd (omega arith)
one_at zero (o ∷ history) within = refl
one_at (suc before) (o ∷ history) within = one_at before history (omega arith)

total_of_history : (history : List op.Op) (ws : List (ℕ × op.Op)) → ((place : ℕ) → operations_at place ws ≡ history_at place history) → (n : ℕ) → n ≤ length history → total_at n ws ≡ n
total_of_history history ws is zero within = refl
total_of_history history ws is (suc n) within =
    let before = total_of_history history ws is n (omega arith) in
    let here : length (operations_at (suc n) ws) ≡ 1 = ap length (is (suc n)) ∙ one_at n history (omega arith) in omega arith

pub histories_count : (lines : List Line) (history : List op.Op) → IsHistory lines history → length history ≡ write_count lines
histories_count lines history is =
    sym (total_of_history history (writes lines) is (length history) (omega arith))
    ∙ all_counted history (writes lines) (λ place. let same : length (operations_at place (writes lines)) ≡ length (history_at place history) = ap length (is place) in omega arith)

-- Proper histories

-- where each operation is a write after those before it, the list is proper
proper_at : (w : World) (history : List op.Op) → ((i : ℕ) (o : op.Op) → slice_get history i ≡ Some o → is_write (replay w (take i history)) o ≡ true) → IsProper w history
proper_at w [] each = tt
proper_at w (first ∷ history) each = (each 0 first refl, proper_at (step w first).world history (λ i o is. each (suc i) o is))

-- the operation of a true write, at its place
true_write : (opened : World) (history : List op.Op) (place : ℕ) (o : op.Op) (more : List op.Op) (lines : List Line) → AreWritesTrue opened history lines → operations_at place (writes lines) ≡ o ∷ more → is_write (world_before opened history place) o ≡ true
true_write opened history place o more [] all is = absurd cc
true_write opened history place o more (line ∷ lines) all is =
    this line.what (All-head (λ (l : Line). IsWriteTrue opened history l.what) line lines all) is
    (λ rest. true_write opened history place o more lines (All-tail (λ (l : Line). IsWriteTrue opened history l.what) line lines all) rest)
  where
    this : (w : what.What) → IsWriteTrue opened history w → operations_at place (write_in w ++ writes lines) ≡ o ∷ more → (operations_at place (writes lines) ≡ o ∷ more → is_write (world_before opened history place) o ≡ true) → is_write (world_before opened history place) o ≡ true
    this (whats.Did at path (line_ops.Of operation) reply) is_true has rest = by_reply (is_write_reply reply) refl has
      where
        by_reply : (written : Bool) → is_write_reply reply ≡ written → operations_at place ((if written then (at.0, operation) ∷ [] else []) ++ writes lines) ≡ o ∷ more → is_write (world_before opened history place) o ≡ true
        by_reply false no_write here = rest here
        by_reply true wrote here = by_place (at.0 == place) refl here
          where
            by_place : (same : Bool) → (at.0 == place) ≡ same → (if same then operation ∷ operations_at place (writes lines) else operations_at place (writes lines)) ≡ o ∷ more → is_write (world_before opened history place) o ≡ true
            by_place false other there = rest there
            by_place true same there =
                let at_place : at.0 ≡ place = eqb-true at.0 place same in
                let is_o : operation ≡ o = cc there in
                ap (λ (n : ℕ). is_write (world_before opened history n) o) (sym at_place) ∙ (ap (λ p. is_write (world_before opened history at.0) p) (sym is_o) ∙ (is_true wrote).1)
    this (whats.Did at path (line_ops.Begin first second) reply) is_true has rest = rest has
    this (whats.Did at path line_ops.Finish reply) is_true has rest = rest has
    this (whats.Local local) is_true has rest = rest has

pub true_writes_proper : (opened : World) (lines : List Line) (history : List op.Op) → IsHistory lines history → AreWritesTrue opened history lines → IsProper opened history
true_writes_proper opened lines history is all = proper_at opened history (λ i o at. each i o at)
  where
    each : (i : ℕ) (o : op.Op) → slice_get history i ≡ Some o → is_write (replay opened (take i history)) o ≡ true
    each i o at =
        let before : suc i - 1 ≡ i = omega arith in
        ap (λ (n : ℕ). is_write (replay opened (take n history)) o) (sym before) ∙ true_write opened history (suc i) o [] lines all (is (suc i) ∙ ap option_to_list at)
