use Rattle.at_event.proofs.OneViews.{one_view_linearized}
use Rattle.at_event.proofs.laws.one_view_is_linearized.Goals as goal

pub returns : goal.returns
returns c = one_view_linearized
