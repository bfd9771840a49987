use Rattle.at_script.proofs.LawLemmas.{offence_told, offence_made}
use Rattle.at_script.proofs.laws.offence_is_the_first.Goals as goal

pub returns : goal.returns
returns c = λ text line d. (offence_told text line d, offence_made text line d)
