-- The run of a script whose only block is `main`.
use Rattle.std.proofs.Common.{◌≡◌, ◌∙◌, refl, ap, ℕ, suc, ◌+◌, List, [], ◌∷◌, ◌++◌, length, None, append-nil, arith}
use Rattle.at_line.specs.declared.line.Line.{Line}
use Rattle.at_line.specs.declared.line.What as what
use Rattle.at_line.specs.Lines.{finally_thread}
use Rattle.at_line.specs.Kept.{whats_of_thread}
use Rattle.at_script.specs.Parts.{ScriptParts}
use Rattle.at_thread.specs.Runs.{numbered_lines, whole, IsRunOf}

-- lines after others of the same block go on with its numbers
pub numbered_both : (thread from next : ℕ) (says more : List what.What) → next ≡ from + length says → numbered_lines thread from (says ++ more) ≡ numbered_lines thread from says ++ numbered_lines thread next more
numbered_both thread from next [] more e = ap (λ (n : ℕ). numbered_lines thread n more) (let z : from ≡ next = omega arith in z)
numbered_both thread from next (w ∷ says) more e = ap (λ (rest : List Line). record { what = w; number = from; thread = thread } ∷ rest) (numbered_both thread (suc from) next says more (omega arith))

pub numbered_length : (thread from : ℕ) (says : List what.What) → length (numbered_lines thread from says) ≡ length says
numbered_length thread from [] = refl
numbered_length thread from (w ∷ says) = ap suc (numbered_length thread (suc from) says)

-- the lines of a run of such a script are those of `main`
pub alone_lines : (s : ScriptParts) (lines : List Line) → s.threads ≡ [] → s.finally ≡ None → IsRunOf s lines → lines ≡ numbered_lines 0 1 (whats_of_thread 0 lines)
alone_lines s lines threads finally run =
    let says : ℕ → List what.What = λ thread. whats_of_thread thread lines in
    run.order
    ∙ (ap (λ (n : ℕ). whole n says) (ap length threads)
    ∙ (ap (λ (ws : List what.What). (numbered_lines 0 1 (says 0) ++ []) ++ numbered_lines finally_thread 1 ws) (run.no_finally finally)
    ∙ (append-nil (numbered_lines 0 1 (says 0) ++ []) ∙ append-nil (numbered_lines 0 1 (says 0)))))
