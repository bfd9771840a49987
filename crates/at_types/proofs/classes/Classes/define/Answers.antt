use Rattle.std.proofs.Common.{◌≡◌, ◌∙◌, ap, sym, subst, arith, Some}
use Rattle.at_c3.proofs.NumberLemmas.{has, has-from_Contains}
use Rattle.at_value.specs.declared.operation.Op.TheVariants as ops
use Rattle.at_model.specs.World.{order_in}
use Rattle.at_types.specs.ClassSteps.{reply_to, plan_reply, new_class}
use Rattle.at_types.proofs.SubclassLemmas.{absent_free, unreached_free}
use Rattle.at_types.proofs.KeptLemmas.{kept-defined, made_within}
use Rattle.at_types.proofs.Defining.{CanBeMade, planned, refused_class}
use Rattle.at_types.proofs.classes.Classes.define.Goals as goal

pub link-requires-clause-absent : goal.link-requires-clause-absent
link-requires-clause-absent c = λ b base.
    let can : CanBeMade c.self.inside.rows.items c.args.c c.args.bases.now =
    subst (λ classes. CanBeMade classes c.args.c c.args.bases.now) (sym c.self.view_is)
    (planned c.args.self.now c.args.c c.args.bases.now c.in-Ok.order c.in_ok-order.field-0 c.in-Ok.is c.in_ok-order.ensures.reply) in
    absent_free c.self.inside.rows.items c.self.inside.subclasses c.self.invariant.subclasses b c.args.c can.free

pub link-requires-clause-not_below : goal.link-requires-clause-not_below
link-requires-clause-not_below c = λ b base.
    let can : CanBeMade c.self.inside.rows.items c.args.c c.args.bases.now =
    subst (λ classes. CanBeMade classes c.args.c c.args.bases.now) (sym c.self.view_is)
    (planned c.args.self.now c.args.c c.args.bases.now c.in-Ok.order c.in_ok-order.field-0 c.in-Ok.is c.in_ok-order.ensures.reply) in
    unreached_free c.self.inside.rows.items c.self.inside.subclasses c.self.invariant.subclasses c.self.inside.orders.items c.self.invariant.orders_are c.args.c b can.free
    (made_within c.self.inside.rows.items c.args.bases.now can.bases_made b (ap (has b) (sym c.as_slice.ensures) ∙ has-from_Contains b c.as_slice.result.now base))

pub invariant_of-self-in-Ok : goal.invariant_of-self-in-Ok
invariant_of-self-in-Ok c =
    let can : CanBeMade c.self.inside.rows.items c.args.c c.args.bases.now =
    subst (λ classes. CanBeMade classes c.args.c c.args.bases.now) (sym c.self.view_is)
    (planned c.args.self.now c.args.c c.args.bases.now c.in-Ok.order c.in_ok-order.field-0 c.in-Ok.is c.in_ok-order.ensures.reply) in
    let is : order_in (new_class c.self.inside.rows.items c.args.c c.args.bases.now) c.args.c ≡ Some c.in-Ok.order =
    subst (λ classes. order_in (new_class classes c.args.c c.args.bases.now) c.args.c ≡ Some c.in-Ok.order) (sym c.self.view_is) (rw c.in-Ok.is at c.in_ok-order.ensures.order) in
    kept-defined c.self.inside.rows.items c.self.inside.orders.items c.self.inside.subclasses c.link.new.tree c.args.c c.from-i.result c.args.bases.now c.as_slice.result.now c.in-Ok.order c.new.result
    c.self.invariant can.free (omega (arith, c.number.ensures.same, c.number.ensures.range)) can.bases_made can.once is (omega (arith, c.from-i.ensures, c.number.ensures.same)) c.new.ensures c.as_slice.ensures
    c.in_ok-link-in-Ok.ensures.ok

pub returns-in-Err-clause-ok : goal.returns-in-Err-clause-ok
returns-in-Err-clause-ok c =
    let told : c.in-Err.refusal ≡ reply_to c.args.self.now (ops.NewClass c.args.c c.args.bases.now) = sym (ap plan_reply c.in-Err.is) ∙ c.in_ok-order.ensures.reply in
    (told, refused_class c.args.self.now c.args.c c.args.bases.now c.in-Err.refusal told (rw c.in-Err.is at c.in_ok-order.ensures.refusal))
