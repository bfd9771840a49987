use Rattle.at_line.proofs.Histories.{true_writes_proper}
use Rattle.at_line.proofs.laws.legal_histories_are_proper.Goals as goal

pub returns : goal.returns
returns c = λ opened limits history lines linearized. true_writes_proper opened lines history linearized.places linearized.writes
