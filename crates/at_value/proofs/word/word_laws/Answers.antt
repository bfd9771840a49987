use Rattle.at_value.proofs.Words.{one_value, value_fits}
use Rattle.at_value.proofs.word.word_laws.Goals as goal

pub returns-clause-fields : goal.returns-clause-fields
returns-clause-fields c = value_fits

pub returns-clause-one_each : goal.returns-clause-one_each
returns-clause-one_each c = one_value
