use Rattle.std.proofs.Common.{inr}
use Rattle.attrs.proofs.command.too_long.Goals as goal

pub returns-in-Err-clause-answer : goal.returns-in-Err-clause-answer
returns-in-Err-clause-answer g c = λ r read. inr (read, (c.in-Err.ensures.cause, c.in-Err.ensures.part))
