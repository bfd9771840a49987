use Rattle.at_run.proofs.Legals.{legal_run_serial}
use Rattle.at_run.proofs.laws.legal_runs_of_one_block_are_serial.Goals as goal

pub returns : goal.returns
returns c = legal_run_serial
