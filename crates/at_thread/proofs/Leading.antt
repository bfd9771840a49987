-- Steps one after another.
use Rattle.std.proofs.Common.{◌≡◌, refl, sym, ap, subst, ℕ, zero, suc, ◌+◌, ◌*◌, ◌<◌, ◌≤◌, arith, List, [], ◌∷◌, ◌++◌, length}
use Rattle.at_line.specs.declared.line.What as what
use Rattle.at_line.specs.declared.line.What.TheVariants as whats
use Rattle.at_script.specs.declared.stmt.Stmt as stmt
use Rattle.at_script.specs.Parts.{ScriptParts}
use Rattle.at_thread.specs.Execution.{Frame, ThreadState, Variables, Transition, ended, silent, checkpoints, says, asks, dropped, taken, next_of, start}
use Rattle.at_thread.specs.Executions.{Fits, Leads, IsExecution, Makes}
use Rattle.at_thread.proofs.Steps.{size, spare, Few, Onward, AllOnward, next_onward}

-- what goes on may change where the lines are followed by more
fits_more : (on off : ThreadState → List what.What → Type 0) (next : Transition) (lines more : List what.What) → ((s : ThreadState) (rest : List what.What) → on s rest → off s (rest ++ more)) → Fits on next lines → Fits off next (lines ++ more)
fits_more on off ended lines more change f = absurd f
fits_more on off (silent s) lines more change f = change s lines f
fits_more on off (checkpoints s) lines more change f = change s lines f
fits_more on off (says l s) [] more change f = absurd f
fits_more on off (says l s) (w ∷ lines) more change f = (f.0, change s lines f.1)
fits_more on off (asks o u s) [] more change f = absurd f
fits_more on off (asks o u s) (whats.Did place path p r ∷ lines) more change f = (f.0, f.1, change (taken u r s) lines f.2)
fits_more on off (asks o u s) (whats.Local l ∷ lines) more change f = (f.0, change (dropped s) lines f.1)

-- one step more
pub leads_more : (p : ScriptParts) (n : ℕ) (s : ThreadState) (lines : List what.What) (t : ThreadState) (more : List what.What) (u : ThreadState) → Leads p n s lines t → Makes (next_of p t) more u → Leads p (suc n) s (lines ++ more) u
leads_more p zero s lines t more u l m =
    subst (λ (x : ThreadState). Makes (next_of p x) (lines ++ more) u) (sym l.1) (subst (λ (xs : List what.What). Makes (next_of p t) (xs ++ more) u) (sym l.0) m)
leads_more p (suc n) s lines t more u l m =
    fits_more (λ x rest. Leads p n x rest t) (λ x rest. Leads p (suc n) x rest u) (next_of p s) lines more (λ x rest k. leads_more p n x rest t more u k m) l

-- where a step comes to what is onward, so does what fits
fits_onward : (p : ScriptParts) (n count : ℕ) (on : ThreadState → List what.What → Type 0) (G : Type 0) (next : Transition) (lines : List what.What)
    → ((s : ThreadState) (k : ℕ) (rest : List what.What) → Onward p n k s → k + length rest ≡ count + length lines → on s rest → G) → AllOnward p n count next → Fits on next lines → G
fits_onward p n count on G ended lines go h f = absurd f
fits_onward p n count on G (silent s) lines go h f = go s count lines h refl f
fits_onward p n count on G (checkpoints s) lines go h f = go s count lines h refl f
fits_onward p n count on G (says l s) [] go h f = absurd f
fits_onward p n count on G (says l s) (w ∷ lines) go h f = go s (suc count) lines h (omega arith) f.1
fits_onward p n count on G (asks o u s) [] go h f = absurd f
fits_onward p n count on G (asks o u s) (whats.Did place path q r ∷ lines) go h f = go (taken u r s) (suc count) lines (h.0 r) (omega arith) f.2
fits_onward p n count on G (asks o u s) (whats.Local l ∷ lines) go h f = go (dropped s) (suc count) lines h.1 (omega arith) f.1

-- after some steps there are few lines
pub leads_few : (p : ScriptParts) (n count : ℕ) (s : ThreadState) (lines : List what.What) (t : ThreadState) → Few p count s → Leads p n s lines t → Few p (count + length lines) t
leads_few p zero count s lines t h l =
    let none : length lines ≡ 0 = ap length l.0 in
    let same : count + length lines ≡ count = omega arith in
    subst (λ (k : ℕ). Few p k t) (sym same) (subst (Few p count) l.1 h)
leads_few p (suc n) count s lines t h l =
    fits_onward p (size p s) count (λ x rest. Leads p n x rest t) (Few p (count + length lines) t) (next_of p s) lines
    (λ x k rest onward same m. subst (λ (j : ℕ). Few p j t) same (leads_few p n k x rest t onward.few m)) (next_onward p count s h) l

pub start_few : (p : ScriptParts) (block : List stmt.Stmt) (variables : Variables) → Few p 0 (start block variables)
start_few p block variables = record { few = omega arith; within = omega arith }

pub short : (p : ScriptParts) (block : List stmt.Stmt) (variables : Variables) (lines : List what.What) (end : ThreadState) → IsExecution p (start block variables) lines end → (length lines ≤ 2 * end.begun + 1) × (end.begun ≤ p.budget)
short p block variables lines end e =
    let few = leads_few p e.1 0 (start block variables) lines end (start_few p block variables) e.2 in
    let most = spare_most end.frames in
    let h = few.few in
    (omega arith, few.within)
  where
    spare_most : (fs : List Frame) → spare fs ≤ 1
    spare_most [] = omega arith
    spare_most (f ∷ fs) = omega arith

-- a step makes a thread smaller, and its lines stay few
pub step_onward : (p : ScriptParts) (count : ℕ) (s : ThreadState) (lines : List what.What) (t : ThreadState) → Few p count s → Makes (next_of p s) lines t → (size p t < size p s) × Few p (count + length lines) t
step_onward p count s lines t h m =
    fits_onward p (size p s) count (λ x rest. (rest ≡ []) × (x ≡ t)) ((size p t < size p s) × Few p (count + length lines) t) (next_of p s) lines
    (λ x k rest onward same e.
    let none : length rest ≡ 0 = ap length e.0 in
    let all : k ≡ count + length lines = omega arith in (
      subst (λ (u : ThreadState). size p u < size p s) e.1 onward.smaller,
      subst (λ (j : ℕ). Few p j t) all (subst (Few p k) e.1 onward.few),
    ))
    (next_onward p count s h) m
