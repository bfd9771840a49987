use Rattle.at_line.proofs.Serials.{turns-by_line, turns-from_lines}
use Rattle.at_line.proofs.laws.turns_are_by_line.Goals as goal

pub returns : goal.returns
returns c = λ lines order. (turns-by_line lines, turns-from_lines lines order)
