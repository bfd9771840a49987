-- Runs in which one line is done after another, and the run of a script on the plain data model.
use Rattle.std.specs.Prelude.{◌≡◌, List, [], map, All}
use Rattle.at_value.specs.declared.operation.Op as op
use Rattle.at_value.specs.declared.reply.Path.TheVariants as paths
use Rattle.at_model.specs.declared.last.Final as final
use Rattle.at_line.specs.declared.line.Line.{Line}
use Rattle.at_line.specs.declared.line.LineOp.TheVariants as line_ops
use Rattle.at_line.specs.declared.line.LineReply.TheVariants as line_replies
use Rattle.at_line.specs.declared.line.Local.TheVariants as locals
use Rattle.at_line.specs.declared.line.What as what
use Rattle.at_line.specs.declared.line.What.TheVariants as whats
use Rattle.at_model.specs.History.{replay}
use Rattle.at_model.specs.Final.{final_of}
use Rattle.at_line.specs.Lines.{what_of}
use Rattle.at_line.specs.Paths.{AreLocked}
use Rattle.at_line.specs.Serial.{IsSerial}
use Rattle.at_script.specs.Parts.{ScriptParts}
use Rattle.at_thread.specs.Runs.{IsRunOf}
use Rattle.at_run.specs.Opening.{opening_of}

-- the end of a section says that it was kept, and no line comes to a limit
abbrev pub IsUndisturbed : what.What → Type 0
IsUndisturbed (whats.Did place path (line_ops.Of operation) reply) = Unit {0}
IsUndisturbed (whats.Did place path (line_ops.Begin first second) reply) = Unit {0}
IsUndisturbed (whats.Did place path line_ops.Finish reply) = reply ≡ line_replies.Kept
IsUndisturbed (whats.Local locals.Depth) = Unit {0}
IsUndisturbed (whats.Local locals.Budget) = Unit {0}
IsUndisturbed (whats.Local locals.Kind) = Unit {0}
IsUndisturbed (whats.Local (locals.Unbound variable)) = Unit {0}
IsUndisturbed (whats.Local locals.NotCallable) = Unit {0}
IsUndisturbed (whats.Local (locals.Worn sequence)) = ⊥
IsUndisturbed (whats.Local (locals.Full place)) = ⊥

-- The lines run the script, one after another: those of `main`, of each thread in turn and of `finally`. Each stands at the
-- end of the history so far, with the reply of the data model there, and the last namespaces are those after all of them.
pub record IsSerialRun (s : ScriptParts) (lines : List Line) (last : final.Final) : Type 0 where
  pub runs : IsRunOf s lines
  pub history : List op.Op
  pub serial : IsSerial (opening_of s) [] (map what_of lines) history
  pub undisturbed : All (λ (line : Line). IsUndisturbed line.what) lines
  pub ends : last ≡ final_of (replay (opening_of s) history)

-- a line as it would be under locks
abbrev pub under_locks : what.What → what.What
under_locks (whats.Did place path operation reply) = whats.Did place paths.Locked operation reply
under_locks (whats.Local local) = whats.Local local

abbrev pub line_under_locks : Line → Line
line_under_locks line = record line { what = under_locks line.what }

-- Such a run under locks, as the plain data model has it.
pub record IsPlainRun (s : ScriptParts) (lines : List Line) (last : final.Final) : Type 0 where
  pub serial_run : IsSerialRun s lines last
  pub locked : AreLocked lines
