use Rattle.std.proofs.Common.{◌≡◌, Option, true, false, is_some, sym, ap, ◌∙◌}
use Rattle.at_value.specs.declared.value.Value as value
use Rattle.at_desc.specs.declared.descriptor.Three.{Three}
use Rattle.at_desc.specs.Binding.{bound_special}
use Rattle.at_model.specs.Step.{is_in_order, is_made}
use Rattle.at_model.specs.World.{World, order_of, row_of}
use Rattle.at_model.specs.Attributes.{three_of}
use Rattle.at_types.specs.Lookups.{found_after}
use Rattle.at_call.specs.UnderWay.{seen_world}
use Rattle.at_call.proofs.From.{rests_then}
use Rattle.at_call.proofs.Keeping.{world_rests}
use Rattle.at_super.proofs.Stepping.{super_beside, super_found}
use Rattle.at_super.proofs.replies.super_get_reply.Goals as goal

pub returns-clause-rests : goal.returns-clause-rests
returns-clause-rests c = rests_then c.args.pass.now c.class_of_object.new.pass c.three_of-three.new.pass c.class_of_object.ensures.rests c.three_of-three.ensures.rests

pub returns-then-not-is_above-clause-reply : goal.returns-then-not-is_above-clause-reply
returns-then-not-is_above-clause-reply c =
    let p = c.args.pass.now in
    let w = seen_world p in
    let class = c.in-Some.class in
    let stands = c.requires.hand.now.stands in
    let made : is_made w c.args.k ≡ true = ap (λ classes. is_some (row_of classes c.args.k)) (sym stands.classes) ∙ (sym c.is_made.ensures ∙ c.if-not-is_made.false) in
    let out : is_in_order c.args.k (order_of w class) ≡ false = sym (c.is_above.ensures p c.requires.hand) ∙ c.if-not-is_above.true in
    super_beside w c.args.k c.args.o c.args.n class (sym c.in-Some.is ∙ c.class_of_object.ensures.class) made out

pub returns-clause-reply : goal.returns-clause-reply
returns-clause-reply c =
    let p = c.args.pass.now in
    let w = seen_world p in
    let class = c.in-Some.class in
    let stands = c.requires.hand.now.stands in
    let made : is_made w c.args.k ≡ true = ap (λ classes. is_some (row_of classes c.args.k)) (sym stands.classes) ∙ (sym c.is_made.ensures ∙ c.if-not-is_made.false) in
    let has : is_in_order c.args.k (order_of w class) ≡ true = sym (c.is_above.ensures p c.requires.hand) ∙ c.if-not-is_above.false in
    let t : c.find_after-t.result ≡ found_after w.classes c.args.k class c.args.n = c.find_after-t.ensures ∙ ap (λ classes. found_after classes c.args.k class c.args.n) stands.classes in
    let three : c.three_of-three.result ≡ three_of w (found_after w.classes c.args.k class c.args.n) = c.three_of-three.ensures.three ∙ (ap (λ (x : World). three_of x c.find_after-t.result) (world_rests p c.class_of_object.new.pass c.class_of_object.ensures.rests) ∙ ap (three_of w) t) in
    c.bind_special.ensures ∙ (ap (λ (x : Three). bound_special c.find_after-t.result x c.args.o class) three
    ∙ (ap (λ (x : Option value.Value). bound_special x (three_of w (found_after w.classes c.args.k class c.args.n)) c.args.o class) t
    ∙ super_found w c.args.k c.args.o c.args.n class (sym c.in-Some.is ∙ c.class_of_object.ensures.class) made has))
