use Rattle.std.proofs.Common.{refl}
use Rattle.at_script.proofs.examples.offences_of_texts.Goals as goal

pub returns : goal.returns
returns c = refl
