use Rattle.at_model.proofs.WorldSteps.{step-formed}
use Rattle.at_model.proofs.laws.step_keeps_well_formed.Goals as goal

pub returns : goal.returns
returns c = step-formed
