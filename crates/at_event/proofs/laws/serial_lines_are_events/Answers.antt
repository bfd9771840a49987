use Rattle.at_event.proofs.OneThread.{serial_events}
use Rattle.at_event.proofs.laws.serial_lines_are_events.Goals as goal

pub returns : goal.returns
returns c = serial_events
