-- In a run of a script the lines of each thread are numbered from 1 without a gap.
use Rattle.std.proofs.Common.{◌≡◌, ◌∙◌, ◌⊎◌, inl, inr, refl, sym, ap, subst, cond, ℕ, zero, suc, ◌+◌, ◌<◌, ◌==◌, arith, List, [], ◌∷◌, ◌++◌, append-nil, length, length-append, Some, Bool, true, false, if◌then◌else◌, slice_get}
use Rattle.std.proofs.lemmas.Bool.{eq-eqb, eqb-true, ne_eqb}
use Rattle.std.proofs.lemmas.List.Elements.{filter-append}
use Rattle.at_line.specs.declared.line.Line.{Line}
use Rattle.at_line.specs.declared.line.What as what
use Rattle.at_line.specs.Lines.{main_thread, finally_thread, lines_of_thread}
use Rattle.at_line.specs.Kept.{whats_of_thread}
use Rattle.at_script.specs.Parts.{ScriptParts}
use Rattle.at_thread.specs.Runs.{numbered_lines, lines_in_order, whole, IsRunOf}
use Rattle.at_thread.proofs.Numbering.{number_at}
use Rattle.at_thread.proofs.Alone.{numbered_length}

of_both : (thread : ℕ) (first second : List Line) → lines_of_thread thread (first ++ second) ≡ lines_of_thread thread first ++ lines_of_thread thread second
of_both thread first second = filter-append (λ (l : Line). l.thread == thread) first second

-- a thread's numbered lines are its own
of_own : (thread from : ℕ) (says : List what.What) → lines_of_thread thread (numbered_lines thread from says) ≡ numbered_lines thread from says
of_own thread from [] = refl
of_own thread from (w ∷ says) =
    let line : Line = record { what = w; number = from; thread = thread } in
    ap (λ b. cond b (line ∷ lines_of_thread thread (numbered_lines thread (suc from) says)) (lines_of_thread thread (numbered_lines thread (suc from) says))) (eq-eqb thread thread refl)
    ∙ ap (λ rest. line ∷ rest) (of_own thread (suc from) says)

-- and no other's
of_other : (thread other from : ℕ) (says : List what.What) → (other == thread) ≡ false → lines_of_thread thread (numbered_lines other from says) ≡ []
of_other thread other from [] e = refl
of_other thread other from (w ∷ says) e =
    let line : Line = record { what = w; number = from; thread = other } in
    ap (λ b. cond b (line ∷ lines_of_thread thread (numbered_lines other (suc from) says)) (lines_of_thread thread (numbered_lines other (suc from) says))) e ∙ of_other thread other (suc from) says e

-- what stands in the lines of a thread is as long as these
as_long : (thread : ℕ) (lines : List Line) → length (whats_of_thread thread lines) ≡ length (lines_of_thread thread lines)
as_long thread [] = refl
as_long thread (line ∷ lines) = tests (line.thread == thread) (as_long thread lines)
  where
    tests : (b : Bool) → length (whats_of_thread thread lines) ≡ length (lines_of_thread thread lines)
        → length (if b then line.what ∷ whats_of_thread thread lines else whats_of_thread thread lines) ≡ length (cond b (line ∷ lines_of_thread thread lines) (lines_of_thread thread lines))
    tests true e = ap suc e
    tests false e = e

-- no lines, or those of the thread once
abbrev IsOnce : ℕ → (ℕ → List what.What) → List Line → Type 0
IsOnce thread says lines = (lines ≡ []) ⊎ (lines ≡ numbered_lines thread 1 (says thread))

none_below : (thread count first : ℕ) (says : ℕ → List what.What) → thread < first → lines_of_thread thread (lines_in_order count first says) ≡ []
none_below thread zero first says below = refl
none_below thread (suc count) first says below =
    of_both thread (numbered_lines first 1 (says first)) (lines_in_order count (suc first) says)
    ∙ ap (λ l. l ++ lines_of_thread thread (lines_in_order count (suc first) says)) (of_other thread first 1 (says first) (ne_eqb first thread (λ same. omega arith)))
    ∙ none_below thread count (suc first) says (omega arith)

once_in_order : (thread count first : ℕ) (says : ℕ → List what.What) → IsOnce thread says (lines_of_thread thread (lines_in_order count first says))
once_in_order thread zero first says = inl refl
once_in_order thread (suc count) first says =
    subst (IsOnce thread says) (sym (of_both thread (numbered_lines first 1 (says first)) (lines_in_order count (suc first) says))) (tests (first == thread) refl (once_in_order thread count (suc first) says))
  where
    tests : (b : Bool) → (first == thread) ≡ b → IsOnce thread says (lines_of_thread thread (lines_in_order count (suc first) says)) → IsOnce thread says (lines_of_thread thread (numbered_lines first 1 (says first)) ++ lines_of_thread thread (lines_in_order count (suc first) says))
    tests false other rest = subst (λ l. IsOnce thread says (l ++ lines_of_thread thread (lines_in_order count (suc first) says))) (sym (of_other thread first 1 (says first) other)) rest
    tests true is rest =
        let same : first ≡ thread = eqb-true first thread is in
        inr (ap (λ l. lines_of_thread thread (numbered_lines first 1 (says first)) ++ l) (none_below thread count (suc first) says (omega arith)) ∙ append-nil (lines_of_thread thread (numbered_lines first 1 (says first)))
        ∙ subst (λ t. lines_of_thread t (numbered_lines first 1 (says first)) ≡ numbered_lines t 1 (says t)) same (of_own first 1 (says first)))

nothing : (lines : List Line) → length lines ≡ 0 → lines ≡ []
nothing [] none = refl
nothing (line ∷ lines) none = absurd (omega arith)

-- the lines of the threads up to the last, and those of `finally`
abbrev first_of : ℕ → (ℕ → List what.What) → List Line
first_of count says = lines_in_order (suc count) main_thread says

abbrev last_of : (ℕ → List what.What) → List Line
last_of says = numbered_lines finally_thread 1 (says finally_thread)

-- Were a thread of the script to have the number of `finally`, both would have no line.
once_in_whole : (count thread : ℕ) (says : ℕ → List what.What) (lines : List Line) → lines ≡ whole count says → length (says thread) ≡ length (lines_of_thread thread lines) → IsOnce thread says (lines_of_thread thread lines)
once_in_whole count thread says lines order long = tests (finally_thread == thread) refl
  where
    both : lines_of_thread thread lines ≡ lines_of_thread thread (first_of count says) ++ lines_of_thread thread (last_of says)
    both = ap (lines_of_thread thread) order ∙ of_both thread (first_of count says) (last_of says)

    tests : (b : Bool) → (finally_thread == thread) ≡ b → IsOnce thread says (lines_of_thread thread lines)
    tests false other =
        subst (IsOnce thread says) (sym (both ∙ ap (λ l. lines_of_thread thread (first_of count says) ++ l) (of_other thread finally_thread 1 (says finally_thread) other) ∙ append-nil (lines_of_thread thread (first_of count says))))
        (once_in_order thread (suc count) main_thread says)
    tests true is =
        let own : lines_of_thread thread (last_of says) ≡ numbered_lines thread 1 (says thread) = subst (λ t. lines_of_thread t (last_of says) ≡ numbered_lines t 1 (says t)) (eqb-true finally_thread thread is) (of_own finally_thread 1 (says finally_thread)) in
        elim (once_in_order thread (suc count) main_thread says) [
          | inl none ↦ inr (both ∙ ap (λ l. l ++ lines_of_thread thread (last_of says)) none ∙ own)
          | inr some ↦ inl (nothing (lines_of_thread thread lines) (
              let all : length (lines_of_thread thread lines) ≡ length (lines_of_thread thread (first_of count says)) + length (lines_of_thread thread (last_of says)) = ap length both ∙ length-append (lines_of_thread thread (first_of count says)) (lines_of_thread thread (last_of says)) in
              let one : length (lines_of_thread thread (first_of count says)) ≡ length (says thread) = ap length some ∙ numbered_length thread 1 (says thread) in
              let other : length (lines_of_thread thread (last_of says)) ≡ length (says thread) = ap length own ∙ numbered_length thread 1 (says thread) in
              omega arith
              ))
        ]

pub no_gap : (s : ScriptParts) (lines : List Line) → IsRunOf s lines → (thread i : ℕ) (line : Line) → slice_get (lines_of_thread thread lines) i ≡ Some line → line.number ≡ suc i
no_gap s lines run thread i line at = elim (once_in_whole (length s.threads) thread (λ t. whats_of_thread t lines) lines run.order (as_long thread lines)) [
  | inl none ↦ (let past : slice_get [] i ≡ Some line = subst (λ l. slice_get l i ≡ Some line) none at in absurd cc)
  | inr some ↦ (let here = number_at thread 1 i (whats_of_thread thread lines) line (subst (λ l. slice_get l i ≡ Some line) some at) in omega arith)
]
