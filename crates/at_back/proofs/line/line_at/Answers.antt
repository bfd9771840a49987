use Rattle.std.proofs.Common.{◌≡◌, sym, ℕ, List, Result, Ok, Err, IfOk}
use Rattle.at_line.specs.Types.{Line}
use Rattle.at_script.specs.Parts.{ScriptParts}
use Rattle.at_script.specs.Laws.{AreToldApart}
use Rattle.at_text.specs.ReadLines.{line_at}
use Rattle.at_back.specs.declared.fault.PieceFault.{PieceFault}
use Rattle.at_back.specs.declared.fault.PieceFault.TheVariants as faults
use Rattle.at_back.specs.Left.{left, found, IfTold}
use Rattle.at_back.specs.Told.{IsAtFront, HasNoneAtFront}
use Rattle.at_back.proofs.Exact.{line_told, no_line}
use Rattle.at_back.proofs.line.line_at.Goals as goal

told : (s : ScriptParts) (r : Result Line PieceFault) (whole rest : List ℕ) → IfTold r (left (found r) rest ≡ line_at s whole) → IfOk r (λ line. IsAtFront s whole line rest)
told s (Ok line) whole rest h = line_told s whole line rest (sym h)
told s (Err fault) whole rest h = tt

wrong : (s : ScriptParts) (r : Result Line PieceFault) (whole rest : List ℕ) → AreToldApart s → IfTold r (left (found r) rest ≡ line_at s whole) → r ≡ Err faults.Wrong → HasNoneAtFront s whole
wrong s (Ok line) whole rest apart h e = cc
wrong s (Err faults.Wrong) whole rest apart h e = no_line s apart whole (sym h)
wrong s (Err faults.NoMemory) whole rest apart h e = cc

pub returns-clause-told : goal.returns-clause-told
returns-clause-told c = told c.args.names.now c.line_found.result c.args.text.now c.line_found.new.text c.line_found.ensures

pub returns-clause-wrong : goal.returns-clause-wrong
returns-clause-wrong c = wrong c.args.names.now c.line_found.result c.args.text.now c.line_found.new.text c.script-script.ensures.apart c.line_found.ensures
