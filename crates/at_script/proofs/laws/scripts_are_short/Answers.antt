use Rattle.at_script.proofs.ToldApart.{short}
use Rattle.at_script.proofs.laws.scripts_are_short.Goals as goal

pub returns : goal.returns
returns c = short
