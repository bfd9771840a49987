use Rattle.at_section.proofs.Quiet.{quiet_steps_stay}
use Rattle.at_section.proofs.laws.quiet_sections.Goals as goal

pub returns : goal.returns
returns c = quiet_steps_stay
