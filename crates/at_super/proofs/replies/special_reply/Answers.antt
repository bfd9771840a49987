use Rattle.std.proofs.Common.{◌≡◌, Option, sym, ap, ◌∙◌}
use Rattle.at_value.specs.declared.value.Value as value
use Rattle.at_desc.specs.declared.descriptor.Three.{Three}
use Rattle.at_desc.specs.Binding.{bound_special}
use Rattle.at_model.specs.World.{World, find_in}
use Rattle.at_model.specs.Attributes.{three_of}
use Rattle.at_types.specs.Lookups.{found_in}
use Rattle.at_call.specs.UnderWay.{seen_world}
use Rattle.at_call.proofs.From.{rests_then}
use Rattle.at_call.proofs.Keeping.{world_rests}
use Rattle.at_super.proofs.Stepping.{special_of, special_step}
use Rattle.at_super.proofs.replies.special_reply.Goals as goal

pub returns-clause-rests : goal.returns-clause-rests
returns-clause-rests c = rests_then c.args.pass.now c.class_of_object.new.pass c.three_of-three.new.pass c.class_of_object.ensures.rests c.three_of-three.ensures.rests

pub returns-clause-reply : goal.returns-clause-reply
returns-clause-reply c =
    let w = seen_world c.args.pass.now in
    let class = c.in-Some.class in
    let t : c.find-t.result ≡ find_in w class c.args.n = c.find-t.ensures ∙ ap (λ classes. found_in classes class c.args.n) c.requires.hand.now.stands.classes in
    let three : c.three_of-three.result ≡ three_of w (find_in w class c.args.n) = c.three_of-three.ensures.three ∙ (ap (λ (x : World). three_of x c.find-t.result) (world_rests c.args.pass.now c.class_of_object.new.pass c.class_of_object.ensures.rests) ∙ ap (three_of w) t) in
    c.bind_special.ensures ∙ (ap (λ (x : Three). bound_special c.find-t.result x c.args.o class) three
    ∙ (ap (λ (x : Option value.Value). bound_special x (three_of w (find_in w class c.args.n)) c.args.o class) t
    ∙ (special_of w c.args.o c.args.n class _ (sym c.in-Some.is ∙ c.class_of_object.ensures.class) ∙ sym (special_step w c.args.o c.args.n))))
