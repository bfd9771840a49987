-- The lines of threads, numbered.
use Rattle.std.proofs.Common.{◌≡◌, ◌∙◌, refl, ap, ℕ, zero, suc, ◌+◌, ◌==◌, arith, List, [], ◌∷◌, ◌++◌, Some, Bool, true, false, if◌then◌else◌, slice_get, map}
use Rattle.std.proofs.lemmas.Bool.{eq-eqb}
use Rattle.at_line.specs.declared.line.Line.{Line}
use Rattle.at_line.specs.declared.line.What as what
use Rattle.at_line.specs.Lines.{what_of}
use Rattle.at_line.specs.Kept.{whats_of_thread}
use Rattle.at_thread.specs.Runs.{numbered_lines}

pub number_at : (thread from i : ℕ) (says : List what.What) (line : Line) → slice_get (numbered_lines thread from says) i ≡ Some line → line.number ≡ from + i
number_at thread from i [] line e = cc
number_at thread from zero (w ∷ says) line e = let same : record { what = w; number = from; thread = thread } ≡ line = cc in let n = ap (λ (l : Line). l.number) same in omega arith
number_at thread from (suc i) (w ∷ says) line e = let h = number_at thread (suc from) i says line e in omega arith

-- a thread's numbered lines are its own
pub own : (thread from : ℕ) (says : List what.What) → whats_of_thread thread (numbered_lines thread from says) ≡ says
own thread from [] = refl
own thread from (w ∷ says) =
    ap (λ b. if b then w ∷ whats_of_thread thread (numbered_lines thread (suc from) says) else whats_of_thread thread (numbered_lines thread (suc from) says)) (eq-eqb thread thread refl)
    ∙ ap (λ rest. w ∷ rest) (own thread (suc from) says)

-- and no other's
pub others : (thread other from : ℕ) (says : List what.What) → (other == thread) ≡ false → whats_of_thread thread (numbered_lines other from says) ≡ []
others thread other from [] e = refl
others thread other from (w ∷ says) e =
    ap (λ b. if b then w ∷ whats_of_thread thread (numbered_lines other (suc from) says) else whats_of_thread thread (numbered_lines other (suc from) says)) e
    ∙ others thread other (suc from) says e

pub whats_of_both : (thread : ℕ) (first second : List Line) → whats_of_thread thread (first ++ second) ≡ whats_of_thread thread first ++ whats_of_thread thread second
whats_of_both thread [] second = refl
whats_of_both thread (line ∷ first) second = tests (line.thread == thread) (whats_of_both thread first second)
  where
    tests : (b : Bool) → whats_of_thread thread (first ++ second) ≡ whats_of_thread thread first ++ whats_of_thread thread second
        → (if b then line.what ∷ whats_of_thread thread (first ++ second) else whats_of_thread thread (first ++ second)) ≡ (if b then line.what ∷ whats_of_thread thread first else whats_of_thread thread first) ++ whats_of_thread thread second
    tests true e = ap (λ rest. line.what ∷ rest) e
    tests false e = e

pub whats_of_numbered : (thread from : ℕ) (says : List what.What) → map what_of (numbered_lines thread from says) ≡ says
whats_of_numbered thread from [] = refl
whats_of_numbered thread from (w ∷ says) = ap (λ rest. w ∷ rest) (whats_of_numbered thread (suc from) says)
