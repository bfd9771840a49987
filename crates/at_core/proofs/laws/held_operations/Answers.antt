use Rattle.at_core.proofs.Written.{leaves_types, leaves_objects, leaves_rows}
use Rattle.at_core.proofs.HeldStays.{held_operations_stay}
use Rattle.at_core.proofs.laws.held_operations.Goals as goal

pub returns-clause-types : goal.returns-clause-types
returns-clause-types c = leaves_types

pub returns-clause-rows : goal.returns-clause-rows
returns-clause-rows c = leaves_rows

pub returns-clause-stays : goal.returns-clause-stays
returns-clause-stays c = held_operations_stay

pub returns-clause-objects : goal.returns-clause-objects
returns-clause-objects c = leaves_objects
