use Rattle.at_event.proofs.Sound.{sound}
use Rattle.at_event.proofs.laws.every_events.Goals as goal

pub returns : goal.returns
returns c = sound
