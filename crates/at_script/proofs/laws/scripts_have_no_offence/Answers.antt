use Rattle.at_script.specs.Script.{first_offence, script_in}
use Rattle.at_script.proofs.LawLemmas.{script_or_not}
use Rattle.at_script.proofs.laws.scripts_have_no_offence.Goals as goal

pub returns : goal.returns
returns c = λ text. script_or_not (first_offence text) (script_in text)
