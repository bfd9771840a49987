use Rattle.at_types.proofs.Runs.{every_run_stands}
use Rattle.at_types.proofs.laws.run_law.Goals as goal

pub returns : goal.returns
returns c = every_run_stands
