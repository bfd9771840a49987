use Rattle.at_line.proofs.OneThread.{one_thread_serial}
use Rattle.at_line.proofs.laws.one_thread_is_serial.Goals as goal

pub returns : goal.returns
returns c = one_thread_serial
