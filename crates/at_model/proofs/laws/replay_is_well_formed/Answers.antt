use Rattle.at_model.proofs.Worlds.{opening_is_formed}
use Rattle.at_model.proofs.WorldSteps.{replay-formed}
use Rattle.at_model.proofs.laws.replay_is_well_formed.Goals as goal

pub returns-clause-replay : goal.returns-clause-replay
returns-clause-replay c = replay-formed

pub returns-clause-opening : goal.returns-clause-opening
returns-clause-opening c = opening_is_formed
