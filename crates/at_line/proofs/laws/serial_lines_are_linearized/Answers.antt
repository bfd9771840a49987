use Rattle.at_line.proofs.Serials.{serial_is_linearized, one_thread_in_order}
use Rattle.at_line.proofs.laws.serial_lines_are_linearized.Goals as goal

pub returns-clause-linearized : goal.returns-clause-linearized
returns-clause-linearized c = serial_is_linearized

pub returns-clause-one_thread : goal.returns-clause-one_thread
returns-clause-one_thread c = one_thread_in_order
