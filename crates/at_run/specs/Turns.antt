-- private: about the turns of the running code; no public clause cites it. One turn of a thread on the plain data model:
-- what it does to the thread, and to the world.
use Rattle.std.specs.Prelude.{ℕ, ◌≡◌, ◌+◌, ◌-◌, ◌^◌, ◌<◌, Bool, true, false, List, [], ◌∷◌, ◌++◌, length}
use Rattle.at_line.specs.declared.line.Line.{Line}
use Rattle.at_line.specs.declared.line.LineOp as line_op
use Rattle.at_line.specs.declared.line.LineOp.TheVariants as line_ops
use Rattle.at_line.specs.declared.line.LineReply.TheVariants as line_replies
use Rattle.at_line.specs.declared.line.What as what
use Rattle.at_line.specs.declared.line.What.TheVariants as whats
use Rattle.at_model.specs.Step.{step}
use Rattle.at_line.specs.Paths.{IsLocked}
use Rattle.at_world.specs.Plain.{PlainState, stepped}
use Rattle.at_script.specs.Parts.{ScriptParts}
use Rattle.at_thread.specs.Execution as execution
use Rattle.at_thread.specs.Execution.{next_of, ended}
use Rattle.at_thread.specs.Executions.{Makes}
use Rattle.at_thread.specs.Runs.{numbered_lines}
use Rattle.at_thread.specs.declared.next.ReplyUse as uses
use Rattle.at_run.specs.PlainRun.{IsUndisturbed}

-- the line is undisturbed and goes under locks
abbrev pub IsPlain : what.What → Type 0
IsPlain l = IsUndisturbed l × IsLocked l

-- The line was done on the world: the operation has its reply and the place after it, and the world is that after its
-- step. The begin and the end of a section change nothing, and have the place as it stands.
abbrev pub Tells : PlainState → what.What → PlainState → Type 0
Tells w (whats.Did place path (line_ops.Of operation) reply) v = (reply ≡ line_replies.Of (step w.world operation).reply) × (v ≡ stepped w operation) × (place.0 ≡ v.place)
Tells w (whats.Did place path (line_ops.Begin first second) reply) v = (v ≡ w) × (place.0 ≡ w.place)
Tells w (whats.Did place path line_ops.Finish reply) v = (v ≡ w) × (place.0 ≡ w.place)
Tells w (whats.Local local) v = v ≡ w

-- The turn of a thread, which goes on or has ended, with the lines that it comes to: what it does to the thread
abbrev pub Moves : ScriptParts → execution.ThreadState → Bool → List what.What → execution.ThreadState → Type 0
Moves p s true says t = Makes (next_of p s) says t
Moves p s false says t = (next_of p s ≡ ended) × (t ≡ s) × (says ≡ [])

-- and to the world
abbrev pub TellsIn : PlainState → List what.What → PlainState → Type 0
TellsIn w [] v = v ≡ w
TellsIn w (l ∷ []) v = Tells w l v × IsPlain l
TellsIn w (l ∷ m ∷ more) v = ⊥

-- Lines

-- there is room for a line, and a number for it
abbrev pub HasRoom : ℕ → ℕ → ℕ → Type 0
HasRoom number count capacity = (number < 2 ^ 32 - 1) × (count < capacity)

-- there is, where what comes next has a line
abbrev pub HasRoomFor : execution.Transition → ℕ → ℕ → ℕ → Type 0
HasRoomFor execution.ended number count capacity = Unit {0}
HasRoomFor (execution.silent s) number count capacity = Unit {0}
HasRoomFor (execution.checkpoints s) number count capacity = Unit {0}
HasRoomFor (execution.says l s) number count capacity = HasRoom number count capacity
HasRoomFor (execution.asks o u s) number count capacity = HasRoom number count capacity

-- a line was put after those before, under the next number
abbrev pub IsPut : ℕ → ℕ → List Line → what.What → ℕ → List Line → Type 0
IsPut thread number before l now after = (now ≡ number + 1) × (after ≡ before ++ record { what = l; number = number + 1; thread = thread } ∷ [])

-- an operation that a thread asks for was done, and its line put
pub record Did (thread : ℕ) (o : line_op.LineOp) (u : uses.ReplyUse) (s : execution.ThreadState) (w : PlainState) (number : ℕ) (before : List Line) (t : execution.ThreadState) (v : PlainState) (now : ℕ) (after : List Line)
    : Type 0 where
  pub line : what.What
  pub moves : Makes (execution.asks o u s) (line ∷ []) t
  pub tells : Tells w line v
  pub plain : IsPlain line
  pub put : IsPut thread number before line now after

-- a turn was taken, and its lines put after those before
pub record Turned (p : ScriptParts) (thread : ℕ) (s : execution.ThreadState) (w : PlainState) (number : ℕ) (before : List Line) (goes_on : Bool) (t : execution.ThreadState) (v : PlainState) (now : ℕ) (after : List Line)
    : Type 0 where
  pub says : List what.What
  pub moves : Moves p s goes_on says t
  pub tells : TellsIn w says v
  pub lines : after ≡ before ++ numbered_lines thread (number + 1) says
  pub count : now ≡ number + length says
