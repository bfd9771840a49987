use Rattle.at_text.proofs.OneToOne.{one_to_one}
use Rattle.at_text.proofs.laws.text_is_one_to_one.Goals as goal

pub returns : goal.returns
returns c = one_to_one c.names_are_told_apart.ensures c.scripts_are_short.ensures
