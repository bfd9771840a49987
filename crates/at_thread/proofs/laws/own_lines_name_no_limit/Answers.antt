use Rattle.at_thread.proofs.Saying.{next_says}
use Rattle.at_thread.proofs.laws.own_lines_name_no_limit.Goals as goal

pub returns : goal.returns
returns c = next_says
