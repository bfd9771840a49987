use Rattle.at_thread.proofs.Leading.{short}
use Rattle.at_thread.proofs.laws.executions_are_short.Goals as goal

pub returns : goal.returns
returns c = short
