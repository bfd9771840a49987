-- The blocks of a run stand in the order in which they run.
use Rattle.std.proofs.Common.{◌≡◌, ℕ, zero, suc, ◌+◌, ◌≤◌, arith, inl, inr, List, [], ◌∷◌, ◌++◌, get_or, append_assoc, append-nil, sym, subst}
use Rattle.std.specs.Prelude.{All}
use Rattle.std.proofs.lemmas.List.Elements.{All-nil, All-cons, All-weaker}
use Rattle.std.proofs.lemmas.List.Kept.{AllPairs-cons}
use Rattle.at_line.specs.declared.line.Line.{Line}
use Rattle.at_line.specs.declared.line.What as what
use Rattle.at_line.specs.Lines.{main_thread, last_thread, finally_thread}
use Rattle.at_line.specs.Legal.{RunsAfter}
use Rattle.at_line.specs.Serial.{AreInOrder, AreByThread}
use Rattle.at_thread.specs.Runs.{numbered_lines, lines_in_order, whole}

abbrev IsFrom : ℕ → Line → Type 0
IsFrom thread line = (thread ≤ line.thread) × (line.thread ≤ finally_thread)

abbrev IsInOrder : Line → Line → Type 0
IsInOrder first second = first.thread ≤ second.thread

-- a thread runs after none with a greater number
in_order : (first second : ℕ) → first ≤ second → second ≤ finally_thread → RunsAfter second first → ⊥
in_order first second less most (inl (is_main, after, before)) = omega arith
in_order first second less most (inr (other, last)) = other (let e : second ≡ finally_thread = omega arith in e)

-- lines that stand in order, all from a thread on
record From (thread : ℕ) (lines : List Line) : Type 0 where
  pub from : All (IsFrom thread) lines
  pub order : AreByThread lines

from_numbered : (thread number : ℕ) (told : List what.What) (rest : List Line) → thread ≤ finally_thread → From thread rest → From thread (numbered_lines thread number told ++ rest)
from_numbered thread number [] rest most on = on
from_numbered thread number (w ∷ told) rest most on =
    let more = from_numbered thread (suc number) told rest most on in
    let line : Line = record { what = w; number = number; thread = thread } in
    record {
      from = All-cons (IsFrom thread) line (numbered_lines thread (suc number) told ++ rest) (omega arith, most) more.from;
      order = AllPairs-cons IsInOrder line (numbered_lines thread (suc number) told ++ rest)
          (All-weaker (IsFrom thread) (IsInOrder line) (λ second from. from.0) (numbered_lines thread (suc number) told ++ rest) more.from) more.order;
    }

from_lower : (low thread : ℕ) (lines : List Line) → low ≤ thread → From thread lines → From low lines
from_lower low thread lines less on = record {
  from = All-weaker (IsFrom thread) (IsFrom low) (λ line from. let above = from.0 in (omega arith, from.1)) lines on.from;
  order = on.order;
}

from_threads : (count thread : ℕ) (told : ℕ → List what.What) (rest : List Line) → thread + count ≤ finally_thread → From (thread + count) rest → From thread (lines_in_order count thread told ++ rest)
from_threads zero thread told rest most on = from_lower thread (thread + 0) rest (omega arith) on
from_threads (suc count) thread told rest most on =
    let later : From (suc thread) (lines_in_order count (suc thread) told ++ rest) =
    from_threads count (suc thread) told rest (omega arith) (subst (λ (n : ℕ). From n rest) (let e : thread + suc count ≡ suc thread + count = omega arith in e) on) in
    subst (From thread) (sym (append_assoc (numbered_lines thread 1 (told thread)) (lines_in_order count (suc thread) told) rest))
    (from_numbered thread 1 (told thread) (lines_in_order count (suc thread) told ++ rest) (omega arith) (from_lower thread (suc thread) (lines_in_order count (suc thread) told ++ rest) (omega arith) later))

none_from : (thread : ℕ) → From thread []
none_from thread = record { from = All-nil (IsFrom thread); order = λ i j d before within. absurd (omega arith) }

-- the lines of `main`, of the threads and of `finally`, where there are no more threads than there may be
whole_from : (count : ℕ) (told : ℕ → List what.What) → count ≤ last_thread → From main_thread (whole count told)
whole_from count told few =
    let last : From finally_thread (numbered_lines finally_thread 1 (told finally_thread)) = subst (From finally_thread) (append-nil (numbered_lines finally_thread 1 (told finally_thread))) (from_numbered finally_thread 1 (told finally_thread) [] (omega arith) (none_from finally_thread)) in
    from_threads (suc count) main_thread told (numbered_lines finally_thread 1 (told finally_thread)) (omega arith) (from_lower (main_thread + suc count) finally_thread (numbered_lines finally_thread 1 (told finally_thread)) (omega arith) last)

-- stand thread by thread
pub whole_by_thread : (count : ℕ) (told : ℕ → List what.What) → count ≤ last_thread → AreByThread (whole count told)
whole_by_thread count told few = (whole_from count told few).order

-- in the order in which the threads run
pub whole_in_order : (count : ℕ) (told : ℕ → List what.What) → count ≤ last_thread → AreInOrder (whole count told)
whole_in_order count told few i j d before within =
    let all = whole_from count told few in
    let first : Line = get_or (whole count told) i d in
    let second : Line = get_or (whole count told) j d in
    in_order first.thread second.thread (all.order i j d before within) (all.from j d within).1
