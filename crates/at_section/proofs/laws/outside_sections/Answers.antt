use Rattle.at_section.proofs.Outside.{outside}
use Rattle.at_section.proofs.laws.outside_sections.Goals as goal

pub returns : goal.returns
returns c = outside
