use Rattle.std.proofs.Common.{ap, refl, Err, inl}
use Rattle.attrs.proofs.command.transcribe.Goals as goal

pub returns-clause-answer : goal.returns-clause-answer
returns-clause-answer g c =
    let fault = ap (λ f. Err f) c.in-Err-WriteFault.field-0-is in
    (_, inl (c.args.script.now, _, _, c.requires, (c.in-Ok.ensures.plain, c.in-Ok.ensures.legal), refl), (c.in-Err-WriteFault.ensures.cause fault, c.in-Err-WriteFault.ensures.prefix fault))
