-- Which lists of lines are a run of a script: those of `main`, then those of each thread, then those of `finally`.
use Rattle.std.specs.Prelude.{◌≡◌, ℕ, zero, suc, List, [], ◌∷◌, ◌++◌, length, replicate, slice_get, Some, None}
use Rattle.at_line.specs.declared.line.Line.{Line}
use Rattle.at_line.specs.declared.line.What as what
use Rattle.at_line.specs.Lines.{main_thread, finally_thread}
use Rattle.at_line.specs.Kept.{whats_of_thread}
use Rattle.at_script.specs.declared.stmt.Stmt as stmt
use Rattle.at_script.specs.Parts.{ScriptParts}
use Rattle.at_thread.specs.Execution.{Variables, ThreadState, start}
use Rattle.at_thread.specs.Executions.{IsExecution}

-- the lines of a thread that say this, numbered from this number on
abbrev pub numbered_lines : ℕ → ℕ → List what.What → List Line
numbered_lines thread number [] = []
numbered_lines thread number (w ∷ more) = record { what = w; number = number; thread = thread } ∷ numbered_lines thread (suc number) more

-- the lines of count threads from this one on, one thread after another, each numbered from 1
abbrev pub lines_in_order : ℕ → ℕ → (ℕ → List what.What) → List Line
lines_in_order zero thread says = []
lines_in_order (suc count) thread says = numbered_lines thread 1 (says thread) ++ lines_in_order count (suc thread) says

-- the lines of `main`, of count threads from 1 on, and of `finally`
abbrev pub whole : ℕ → (ℕ → List what.What) → List Line
whole count says = lines_in_order (suc count) main_thread says ++ numbered_lines finally_thread 1 (says finally_thread)

-- The lines are an execution of the block that begins with these variables and ends with those.
pub record Executes (s : ScriptParts) (block : List stmt.Stmt) (before : Variables) (lines : List what.What) (after : Variables) : Type 0 where
  pub end : ThreadState
  pub runs : IsExecution s (start block before) lines end
  pub leaves : end.variables ≡ after

-- the variables of a script, none of which is bound
abbrev pub unbound : ScriptParts → Variables
unbound s = replicate (length s.vars) None

-- The lines are those of `main`, of each thread of the script and of `finally`, one thread after another and each numbered
-- from 1, and no other. Those of each are an execution of its block. The variables of the threads and of `finally` begin as
-- those of `main` end.
pub record IsRunOf (s : ScriptParts) (lines : List Line) : Type 0 where
  pub order : lines ≡ whole (length s.threads) (λ thread. whats_of_thread thread lines)
  pub variables : Variables
  pub main : Executes s s.main (unbound s) (whats_of_thread main_thread lines) variables
  pub threads : (i : ℕ) (block : List stmt.Stmt) → slice_get s.threads i ≡ Some block → (after : Variables) × Executes s block variables (whats_of_thread (suc i) lines) after
  pub finally : (block : List stmt.Stmt) → s.finally ≡ Some block → (after : Variables) × Executes s block variables (whats_of_thread finally_thread lines) after
  pub no_finally : s.finally ≡ None → whats_of_thread finally_thread lines ≡ []
