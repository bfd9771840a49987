use Rattle.at_run.proofs.Legals.{serial_run_events}
use Rattle.at_run.proofs.laws.serial_runs_are_events.Goals as goal

pub returns : goal.returns
returns c = serial_run_events
