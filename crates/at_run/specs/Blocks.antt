-- private: about the blocks that the running code has run; no public clause cites it. What the turns of one block lead to, and
-- where the run stands after `main` and some threads.
use Rattle.std.specs.Prelude.{◌≡◌, ◌+◌, ◌-◌, ◌*◌, ◌^◌, ◌<◌, ◌≤◌, ℕ, suc, List, [], ◌∷◌, ◌++◌, length, map, get_or, slice_get, All, Option, Some, None}
use Rattle.at_value.specs.declared.operation.Op as op
use Rattle.at_model.specs.declared.last.Final as final
use Rattle.at_model.specs.World.{World}
use Rattle.at_model.specs.History.{replay}
use Rattle.at_model.specs.Final.{final_of}
use Rattle.at_line.specs.declared.line.Line.{Line}
use Rattle.at_line.specs.declared.line.What as what
use Rattle.at_line.specs.Lines.{main_thread, what_of}
use Rattle.at_line.specs.Serial.{IsSerial}
use Rattle.at_world.specs.Plain.{PlainState}
use Rattle.at_script.specs.declared.stmt.Block as block
use Rattle.at_script.specs.declared.stmt.Stmt as stmt
use Rattle.at_script.specs.Limits as limits
use Rattle.at_script.specs.Parts.{ScriptParts, block_of}
use Rattle.at_thread.specs.Execution as execution
use Rattle.at_thread.specs.Execution.{Variables, next_of, ended, start}
use Rattle.at_thread.specs.Executions.{Leads}
use Rattle.at_thread.specs.Runs.{numbered_lines, unbound, Executes}
use Rattle.at_run.specs.Opening.{opening_of}
use Rattle.at_run.specs.PlainRun.{IsPlainRun}
use Rattle.at_run.specs.Turns.{IsPlain}

abbrev pub or_none : Option (List stmt.Stmt) → List stmt.Stmt
or_none None = []
or_none (Some statements) = statements

-- the statements of a block, and none where the script has no such block
abbrev pub statements_of : ScriptParts → block.Block → List stmt.Stmt
statements_of p b = or_none (block_of p b)

-- how many lines a block has at most
abbrev pub most_of : ScriptParts → ℕ
most_of p = 2 * p.budget + 1

-- the thread begins a block
abbrev pub IsAtStart : execution.ThreadState → Type 0
IsAtStart s = (statements : List stmt.Stmt) × (variables : Variables) × (s ≡ start statements variables)

-- Worlds

-- the world is that of this history
abbrev pub IsWorldOf : World → PlainState → List op.Op → Type 0
IsWorldOf opened w history = (w.world ≡ replay opened history) × (w.place ≡ length history)

-- the lines lead from the first history to one of which this is the world
pub record LeadsTo (opened : World) (first : List op.Op) (says : List what.What) (w : PlainState) : Type 0 where
  pub history : List op.Op
  pub serial : IsSerial opened first says history
  pub short : length history ≤ length first + length says
  pub world : IsWorldOf opened w history

-- from each history of the world before, as long as places can be counted
abbrev pub Becomes : World → PlainState → List what.What → PlainState → Type 0
Becomes opened w says v = (first : List op.Op) → IsWorldOf opened w first → length first + length says < 2 ^ 64 → LeadsTo opened first says v

-- One block

-- these lines lead from one thread and world to another
pub record Leading (p : ScriptParts) (s : execution.ThreadState) (w : PlainState) (says : List what.What) (t : execution.ThreadState) (v : PlainState) : Type 0 where
  pub steps : ℕ
  pub leads : Leads p steps s says t
  pub plain : All IsPlain says
  pub becomes : Becomes (opening_of p) w says v

-- a block has run to its end, and its lines stand after those before
pub record RunsBlock (p : ScriptParts) (thread : ℕ) (s : execution.ThreadState) (w : PlainState) (before : List Line) (t : execution.ThreadState) (v : PlainState) (after : List Line) : Type 0 where
  pub says : List what.What
  pub lines : after ≡ before ++ numbered_lines thread 1 says
  pub few : length says ≤ most_of p
  pub ends : next_of p t ≡ ended
  pub leading : Leading p s w says t v

-- Block by block

-- the lines of threads from this one on that say this
abbrev pub lines_of_logs : ℕ → List (List what.What) → List Line
lines_of_logs thread [] = []
lines_of_logs thread (says ∷ logs) = numbered_lines thread 1 says ++ lines_of_logs (suc thread) logs

-- the lines are serial and plain, from the opening world to this one
pub record AreSerial (p : ScriptParts) (w : PlainState) (lines : List Line) : Type 0 where
  pub history : List op.Op
  pub serial : IsSerial (opening_of p) [] (map what_of lines) history
  pub short : length history ≤ length lines
  pub world : IsWorldOf (opening_of p) w history
  pub plain : All (λ (line : Line). IsPlain line.what) lines

-- `main` has run, which ended with these variables, and then these many threads
pub record SoFar (p : ScriptParts) (variables : Variables) (done : ℕ) (w : PlainState) (lines : List Line) : Type 0 where
  pub main : List what.What
  pub logs : List (List what.What)
  pub count : length logs ≡ done
  pub are : lines ≡ lines_of_logs main_thread (main ∷ logs)
  pub main_runs : Executes p p.main (unbound p) main variables
  pub threads_run : (i : ℕ) (statements : List stmt.Stmt) → i < done → slice_get p.threads i ≡ Some statements → (after : Variables) × Executes p statements variables (get_or logs i []) after
  pub serial : AreSerial p w lines
  pub long : length lines ≤ suc done * (2 * limits.most_budget + 1)

-- and there is room for the lines of the blocks to come, and for the variables
pub record Stands (p : ScriptParts) (variables : Variables) (done : ℕ) (w : PlainState) (lines : List Line) (capacity : ℕ) (t : execution.ThreadState) : Type 0 where
  pub so_far : SoFar p variables done w lines
  pub room : length lines + (length p.threads + 1 - done) * most_of p ≤ capacity
  pub same : length variables ≡ length t.variables
  pub budget : p.budget ≤ limits.most_budget
  pub threads : length p.threads ≤ limits.most_threads

-- the lines are those of the plain run, and the world is that after them
abbrev pub IsWholeRun : ScriptParts → PlainState → List Line → Type 0
IsWholeRun p w lines = (last : final.Final) → last ≡ final_of w.world → IsPlainRun p lines last
