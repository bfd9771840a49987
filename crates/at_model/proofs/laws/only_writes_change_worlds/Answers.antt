use Rattle.at_model.proofs.OnlyWrites.{step-left, reads_write_nothing}
use Rattle.at_model.proofs.laws.only_writes_change_worlds.Goals as goal

pub returns-clause-unchanged : goal.returns-clause-unchanged
returns-clause-unchanged c = step-left

pub returns-clause-reads : goal.returns-clause-reads
returns-clause-reads c = reads_write_nothing
