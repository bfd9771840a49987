use Rattle.at_section.proofs.KeptLines.{left_alone}
use Rattle.at_section.proofs.laws.kept_lines.Goals as goal

pub returns : goal.returns
returns c = left_alone
