use Rattle.at_core.specs.Passes.{view}
use Rattle.at_get.proofs.Trials.{has_made}
use Rattle.at_get.proofs.tests.make_and_read.Goals as goal

pub inline_value-requires-clause-made : goal.inline_value-requires-clause-made
inline_value-requires-clause-made c = has_made (view c.make_object.new.pass) c.in-Some.ensures.object c.args.o c.requires.numbers.0
