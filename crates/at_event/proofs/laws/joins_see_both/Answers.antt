use Rattle.at_event.proofs.Joins.{join_sees_both}
use Rattle.at_event.proofs.laws.joins_see_both.Goals as goal

pub returns : goal.returns
returns c = join_sees_both
