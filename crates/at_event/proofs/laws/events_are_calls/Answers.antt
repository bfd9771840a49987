use Rattle.at_event.proofs.Calls.{read_is_call, write_is_call}
use Rattle.at_event.proofs.laws.events_are_calls.Goals as goal

pub returns-clause-reads : goal.returns-clause-reads
returns-clause-reads c = read_is_call

pub returns-clause-writes : goal.returns-clause-writes
returns-clause-writes c = write_is_call
