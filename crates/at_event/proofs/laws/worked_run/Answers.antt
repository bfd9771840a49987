use Rattle.std.proofs.Common.{refl, arith}
use Rattle.at_event.proofs.laws.worked_run.Goals as goal

pub returns : goal.returns
returns c = ((refl, refl), _, refl, (refl, _, refl, ((refl, refl), _, refl, ((refl, refl), _, refl, ((refl, refl), _, refl, ((refl, refl, λ same. omega arith), _, refl, ((refl, refl), _, refl, (refl, refl))))))))
