use Rattle.std.proofs.Common.{refl}
use Rattle.attrs.specs.Answers.{source_change}
use Rattle.attrs.proofs.command.attrs.Goals as goal

pub returns-in-None-clause-usage : goal.returns-in-None-clause-usage
returns-in-None-clause-usage g c = λ _. c.usage.ensures.answer (source_change g.S.Source.left g.S.Source.faults c.args.src.now c.args.src.now) (refl, refl)
