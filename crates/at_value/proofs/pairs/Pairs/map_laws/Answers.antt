use Rattle.at_value.proofs.Maps.{map_laws}
use Rattle.at_value.proofs.pairs.Pairs.map_laws.Goals as goal

pub returns : goal.returns
returns c = map_laws
