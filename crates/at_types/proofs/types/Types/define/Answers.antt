use Rattle.std.proofs.Common.{sym, refl, subst}
use Rattle.std.proofs.lemmas.Result.{IfOk-weaker}
use Rattle.at_value.specs.declared.operation.Op as op
use Rattle.at_value.specs.declared.operation.Op.TheVariants as ops
use Rattle.at_types.specs.ClassSteps.{reply_to}
use Rattle.at_types.specs.Types.{TypesState, IsReplyTo, IsStepped}
use Rattle.at_types.proofs.StandingLaws.{early_reply}
use Rattle.at_types.proofs.StepLemmas.{stepped-new_class, replied-new_class}
use Rattle.at_types.proofs.types.Types.define.Goals as goal

pub returns-clause-ok : goal.returns-clause-ok
returns-clause-ok c =
    let now : TypesState = record { classes = c.define.new.self; objects = c.self.inside.objects; numbers = c.self.inside.numbers; tags = c.self.inside.tags } in
    let was : TypesState = record { classes = c.self.inside.classes; objects = c.self.inside.objects; numbers = c.self.inside.numbers; tags = c.self.inside.tags } in
    IfOk-weaker c.define.result _ _
    (λ reply is. subst (λ (s : TypesState). IsStepped (ops.NewClass c.args.c c.args.bases.now) s now reply) c.self.view_is
    (stepped-new_class c.args.c c.args.bases.now was c.define.new.self reply is))
    c.define.ensures.ok

pub returns-clause-early : goal.returns-clause-early
returns-clause-early c = λ refusal is early.
    let was : TypesState = record { classes = c.self.inside.classes; objects = c.self.inside.objects; numbers = c.self.inside.numbers; tags = c.self.inside.tags } in
    let operation : op.Op = ops.NewClass c.args.c c.args.bases.now in
    let is_was : IsReplyTo operation was refusal = subst (λ (s : TypesState). IsReplyTo operation s refusal) (sym c.self.view_is) is in
    c.define.ensures.early (early_reply operation was refusal (reply_to was.classes operation) is_was (replied-new_class c.args.c c.args.bases.now was (reply_to was.classes operation) refl) early)
