use Rattle.at_thread.proofs.Numbers.{no_gap}
use Rattle.at_thread.proofs.laws.numbers_have_no_gap.Goals as goal

pub returns : goal.returns
returns c = no_gap
