use Rattle.std.proofs.Common.{◌∙◌, sym, refl, subst}
use Rattle.std.proofs.lemmas.Bool.{false≢true}
use Rattle.at_value.specs.declared.operation.Op as op
use Rattle.at_types.specs.ClassSteps.{reply_to}
use Rattle.at_types.proofs.StandingLaws.{early_reply}
use Rattle.at_value.specs.declared.operation.Op.TheVariants as ops
use Rattle.at_types.specs.Types.{TypesState, IsReplyTo}
use Rattle.at_types.proofs.StepLemmas.{replied-new_class, replied-set_bases}
use Rattle.at_types.proofs.types.Types.would.Goals as goal

pub returns-in_ok-plan_class-in-NewClass : goal.returns-in_ok-plan_class-in-NewClass
returns-in_ok-plan_class-in-NewClass c =
    let was : TypesState = record { classes = c.self.inside.classes; objects = c.self.inside.objects; numbers = c.self.inside.numbers; tags = c.self.inside.tags } in
    record {
      reply = rw c.in-NewClass.is
          (subst (λ (s : TypesState). IsReplyTo (ops.NewClass c.in-NewClass.c c.in-NewClass.bases) s c.reply_of.result) c.self.view_is
          (replied-new_class c.in-NewClass.c c.in-NewClass.bases was c.reply_of.result (c.reply_of.ensures ∙ c.in_ok-plan_class-in-NewClass.ensures.reply)));
      names = λ names. refl;
      early = λ refusal is early. refl;
    }

pub returns-in_ok-plan_bases-in-SetBases : goal.returns-in_ok-plan_bases-in-SetBases
returns-in_ok-plan_bases-in-SetBases c =
    let was : TypesState = record { classes = c.self.inside.classes; objects = c.self.inside.objects; numbers = c.self.inside.numbers; tags = c.self.inside.tags } in
    record {
      reply = rw c.in-SetBases.is
          (subst (λ (s : TypesState). IsReplyTo (ops.SetBases c.in-SetBases.c c.in-SetBases.bases) s c.reply_of-in-SetBases.result) c.self.view_is
          (replied-set_bases c.in-SetBases.c c.in-SetBases.bases was c.reply_of-in-SetBases.result (c.reply_of-in-SetBases.ensures ∙ c.in_ok-plan_bases-in-SetBases.ensures.reply)));
      names = λ names. refl;
      early = λ refusal is early. refl;
    }

pub returns-in_err-plan_class-in-NewClass-clause-early : goal.returns-in_err-plan_class-in-NewClass-clause-early
returns-in_err-plan_class-in-NewClass-clause-early c = λ refusal is early.
    let was : TypesState = record { classes = c.self.inside.classes; objects = c.self.inside.objects; numbers = c.self.inside.numbers; tags = c.self.inside.tags } in
    let operation : op.Op = ops.NewClass c.in-NewClass.c c.in-NewClass.bases in
    let asked : IsReplyTo operation c.args.self.now refusal = rw c.in-NewClass.is at is in
    let is_was : IsReplyTo operation was refusal = subst (λ (s : TypesState). IsReplyTo operation s refusal) (sym c.self.view_is) asked in
    let known = early_reply operation was refusal (reply_to was.classes operation) is_was (replied-new_class c.in-NewClass.c c.in-NewClass.bases was (reply_to was.classes operation) refl) early in
    absurd (false≢true (c.in_err-plan_class-in-NewClass.ensures.early known))

pub returns-in_err-plan_bases-in-SetBases-clause-early : goal.returns-in_err-plan_bases-in-SetBases-clause-early
returns-in_err-plan_bases-in-SetBases-clause-early c = λ refusal is early.
    let was : TypesState = record { classes = c.self.inside.classes; objects = c.self.inside.objects; numbers = c.self.inside.numbers; tags = c.self.inside.tags } in
    let operation : op.Op = ops.SetBases c.in-SetBases.c c.in-SetBases.bases in
    let asked : IsReplyTo operation c.args.self.now refusal = rw c.in-SetBases.is at is in
    let is_was : IsReplyTo operation was refusal = subst (λ (s : TypesState). IsReplyTo operation s refusal) (sym c.self.view_is) asked in
    let known = early_reply operation was refusal (reply_to was.classes operation) is_was (replied-set_bases c.in-SetBases.c c.in-SetBases.bases was (reply_to was.classes operation) refl) early in
    absurd (false≢true (c.in_err-plan_bases-in-SetBases.ensures.early known))
