use Rattle.at_script.proofs.LawLemmas.{nothing_behind}
use Rattle.at_script.proofs.laws.nothing_behind_counts.Goals as goal

pub returns : goal.returns
returns c = nothing_behind
