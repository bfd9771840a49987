use Rattle.at_thread.proofs.Determined.{determined}
use Rattle.at_thread.proofs.laws.replies_determine_executions.Goals as goal

pub returns : goal.returns
returns c = determined
