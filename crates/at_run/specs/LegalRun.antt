-- The legal runs of a script.
use Rattle.std.specs.Prelude.{◌≡◌, List}
use Rattle.at_value.specs.declared.limits.Limits.{Limits}
use Rattle.at_value.specs.declared.operation.Op as op
use Rattle.at_model.specs.declared.last.Final as final
use Rattle.at_model.specs.History.{replay}
use Rattle.at_model.specs.Final.{final_of}
use Rattle.at_line.specs.declared.line.Line.{Line}
use Rattle.at_line.specs.Legal.{IsLegal}
use Rattle.at_line.specs.Kept.{IsKept}
use Rattle.at_script.specs.Parts.{ScriptParts}
use Rattle.at_thread.specs.Runs.{IsRunOf}
use Rattle.at_run.specs.Opening.{opening_of, limits_of}

-- The lines run the script, and they are legal under these limits with this history, in which the sections that say so are
-- kept.
pub record IsLegalUnder (limits : Limits) (s : ScriptParts) (history : List op.Op) (lines : List Line) : Type 0 where
  pub runs : IsRunOf s lines
  pub legal : IsLegal (opening_of s) limits history lines
  pub kept : IsKept (opening_of s) history lines

-- What every transcript is of: lines that run the script and are legal under its limits, and the namespaces after all their
-- writes.
pub record IsLegalRun (s : ScriptParts) (lines : List Line) (last : final.Final) : Type 0 where
  pub history : List op.Op
  pub under : IsLegalUnder (limits_of s) s history lines
  pub ends : last ≡ final_of (replay (opening_of s) history)
