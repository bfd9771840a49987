use Rattle.std.proofs.Common.{◌∙◌, ap, map, string_bytes, inl, Global}
use Rattle.std.proofs.lemmas.Result.{IfOk-weaker}
use Rattle.attrs.specs.Commands.{command_of}
use Rattle.attrs.proofs.command.start.Goals as goal

pub returns-clause-usage : goal.returns-clause-usage
returns-clause-usage g c =
    let texts = map (string_bytes {Z = Global}) in
    IfOk-weaker c.args.arguments _ _ (λ all is none.
    inl (c.attrs.ensures.usage (ap command_of (ap texts c.deref.ensures.value ∙ ap texts is) ∙ none)))
    c.in-Ok.ensures.after_name
