use Rattle.at_line.proofs.KeptSections.{one_thread_kept}
use Rattle.at_line.proofs.SerialSections.{serial_kept}
use Rattle.at_line.proofs.laws.one_thread_is_kept.Goals as goal

pub returns-clause-one_thread : goal.returns-clause-one_thread
returns-clause-one_thread c = one_thread_kept

pub returns-clause-serial : goal.returns-clause-serial
returns-clause-serial c = serial_kept
