use Rattle.at_run.proofs.Unique.{plain_unique, serial_unique}
use Rattle.at_run.proofs.laws.plain_runs_are_one.Goals as goal

pub returns-clause-plain : goal.returns-clause-plain
returns-clause-plain c = plain_unique

pub returns-clause-serial : goal.returns-clause-serial
returns-clause-serial c = serial_unique
