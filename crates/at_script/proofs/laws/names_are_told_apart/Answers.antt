use Rattle.at_script.proofs.ToldApart.{told_apart}
use Rattle.at_script.proofs.laws.names_are_told_apart.Goals as goal

pub returns : goal.returns
returns c = told_apart
