use Rattle.std.proofs.Common.{None, true, refl, sym, ◌∙◌, subst}
use Rattle.at_value.specs.declared.operation.Op.TheVariants as ops
use Rattle.at_model.proofs.OrderLaws.{no_base}
use Rattle.at_section.specs.Sections.{in_order}
use Rattle.at_call.specs.UnderWay.{HasInHand}
use Rattle.at_super.proofs.Answering.{read_at}
use Rattle.at_super.proofs.reading.mro.Goals as goal

pub returns-in-Ok-clause-done : goal.returns-in-Ok-clause-done
returns-in-Ok-clause-done g c =
    let q = c.begin_call-types.new.pass in
    let operation = ops.Mro c.args.c in
    let replied = c.in-Ok.ensures q (subst (HasInHand q) (sym c.deref.ensures) c.begin_call-types.ensures.hand) in
    c.answer.ensures.done (in_order true None None) c.args.pass.now operation c.begin_call-types.ensures.under c.begin_call-types.ensures.unwritten
    (read_at operation c.in-Ok.reply q refl (λ w o at. no_base o at) (λ w o at. no_base o at) replied)

pub returns-in-Err-clause-out : goal.returns-in-Err-clause-out
returns-in-Err-clause-out g c = (
  c.end_call.ensures.leaves (in_order true None None) c.args.pass.now c.begin_call-types.ensures.under,
  c.end_call.ensures.own ∙ c.begin_call-types.ensures.unwritten,
)
