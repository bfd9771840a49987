use Rattle.std.proofs.Common.{take}
use Rattle.std.specs.List.{flat_map}
use Rattle.at_text.specs.Prints.{Prints}
use Rattle.at_text.specs.Lines.{line_text}
use Rattle.at_text.proofs.transcript.put_lines.Given as goal

abbrev pub invariant-loop-i : goal.invariant-loop-i
invariant-loop-i g l =
    Prints l.initial.pen l.pen (flat_map (line_text l.names) (take l.i l.lines))
