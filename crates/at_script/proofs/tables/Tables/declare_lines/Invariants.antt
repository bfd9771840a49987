use Rattle.std.proofs.Common.{◌≡◌, length}
use Rattle.at_script.specs.Lines.{lines_of}
use Rattle.at_script.specs.Reading.{texts_in, with_all_declared}
use Rattle.at_script.proofs.tables.Tables.declare_lines.Given as goal

-- what is left gives the answer
abbrev pub invariant-loop-rest : goal.invariant-loop-rest
invariant-loop-rest l = with_all_declared (texts_in l.self) (lines_of l.rest) ≡ with_all_declared (texts_in l.initial.self) (lines_of l.initial.rest)

abbrev pub decreases-loop-rest : goal.decreases-loop-rest
decreases-loop-rest l = length l.rest
