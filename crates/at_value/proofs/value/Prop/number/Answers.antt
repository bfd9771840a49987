use Rattle.std.proofs.Common.{arith}
use Rattle.std.proofs.lemmas.Grind.{common_steps}
use Rattle.at_value.specs.Properties.{held-part}
use Rattle.at_value.proofs.value.Prop.number.Goals as goal

pub returns-clause-same : goal.returns-clause-same
returns-clause-same c = grind (arith, common_steps, held-part)

pub returns-clause-range : goal.returns-clause-range
returns-clause-range c = grind (arith, common_steps)
