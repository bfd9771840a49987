use Rattle.at_value.proofs.OperationWords.{one_operation, operation_fits}
use Rattle.at_value.proofs.packing.packing_laws.Goals as goal

pub returns-clause-fields : goal.returns-clause-fields
returns-clause-fields c = operation_fits

pub returns-clause-one_each : goal.returns-clause-one_each
returns-clause-one_each c = one_operation
