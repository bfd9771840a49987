use Rattle.at_core.proofs.SomeRun.{have_each_kind, some_run_goes}
use Rattle.at_core.proofs.laws.some_run.Goals as goal

pub returns-clause-kinds : goal.returns-clause-kinds
returns-clause-kinds c = have_each_kind

pub returns-clause-goes : goal.returns-clause-goes
returns-clause-goes c = some_run_goes
