use Rattle.at_core.proofs.Opening.{opening_holds}
use Rattle.at_core.proofs.AllRuns.{every_run_holds}
use Rattle.at_core.proofs.laws.every_run.Goals as goal

pub returns-clause-opened : goal.returns-clause-opened
returns-clause-opened c = opening_holds

pub returns-clause-kept : goal.returns-clause-kept
returns-clause-kept c = every_run_holds
