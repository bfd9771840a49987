use Rattle.std.proofs.Common.{◌≡◌, ◌∙◌, ap, sym, refl, Some}
use Rattle.at_value.specs.Numbers.{getattr}
use Rattle.at_desc.specs.Binding.{bound_get}
use Rattle.at_model.specs.World.{find_in}
use Rattle.at_model.specs.Attributes.{get_on}
use Rattle.at_world.proofs.Getattr.{unasked}
use Rattle.at_world.proofs.plain.Plain.get.Goals as goal

pub returns-else-asks_getattr : goal.returns-else-asks_getattr
returns-else-asks_getattr c =
    let w = c.args.self.now.world in
    let class = c.in-Some.object.class in
    let t = c.find-t.result in
    let own = c.own_value-own.result in
    let three = c.three_of-three.result in
    let kept = unasked c.args.o c.args.n t own (find_in w class getattr) three class (sym c.asks_getattr.ensures ∙ c.if-asks_getattr.false) in
    let found : bound_get t three own c.args.o class c.args.n (find_in w class getattr) ≡ get_on w c.args.o c.args.n (Some c.in-Some.object) =
    rw (c.three_of-three.ensures, c.own_value-own.ensures, c.find-t.ensures) refl in
    c.bind_get-else-asks_getattr.ensures ∙ kept ∙ found ∙ ap (get_on w c.args.o c.args.n) (sym c.in-Some.is ∙ c.object_at.ensures)
