use Rattle.std.proofs.Common.{◌∙◌, ap, sym}
use Rattle.at_model.specs.Step.{unless_unordered, with_bases}
use Rattle.at_types.specs.ClassSteps.{world_of}
use Rattle.at_types.proofs.NewOrders.{if_ordered-rebased}
use Rattle.at_types.proofs.classes.Classes.plan_orders.Goals as goal

pub returns-in-Some-clause-reply : goal.returns-in-Some-clause-reply
returns-in-Some-clause-reply c =
    let w = world_of c.args.self.now in
    ap (λ r. (unless_unordered w (with_bases w c.args.c c.args.bases.now) r).reply) (sym c.in-Some.is)
    ∙ if_ordered-rebased c.args.self.now c.args.c c.args.bases.now c.in_ok-renewed.renewed.items c.deref.result.now c.first_lost.result c.requires.whole c.requires.made c.in_ok-renewed.ensures
    c.deref.ensures.value c.first_lost.ensures

pub returns-in-None-clause-reply : goal.returns-in-None-clause-reply
returns-in-None-clause-reply c =
    let w = world_of c.args.self.now in
    ap (λ r. (unless_unordered w (with_bases w c.args.c c.args.bases.now) r).reply) (sym c.in-None.is)
    ∙ if_ordered-rebased c.args.self.now c.args.c c.args.bases.now c.in_ok-renewed.renewed.items c.deref.result.now c.first_lost.result c.requires.whole c.requires.made c.in_ok-renewed.ensures
    c.deref.ensures.value c.first_lost.ensures
