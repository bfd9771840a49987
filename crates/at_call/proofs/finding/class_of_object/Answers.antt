use Rattle.std.proofs.Common.{◌<◌, length, Some, sym, ap, ◌∙◌, arith}
use Rattle.std.proofs.lemmas.Bool.Decides.{nat_tests}
use Rattle.at_core.specs.Passes.{view}
use Rattle.at_call.specs.UnderWay.{seen_world}
use Rattle.at_call.proofs.Found.{class_found, surface_looked}
use Rattle.at_call.proofs.finding.class_of_object.Goals as goal

pub returns-clause-surface : goal.returns-clause-surface
returns-clause-surface c =
    let (word, says, at, keys_are, after, saw) = c.load_head.ensures.loaded in
    surface_looked c.args.pass.now c.load_head.new.pass c.args.o word at c.load_head.ensures.same.0 c.load_head.ensures.same.2 after c.requires.surface

pub returns-clause-class : goal.returns-clause-class
returns-clause-class c =
    let (word, says, at, keys_are, after, saw) = c.load_head.ensures.loaded in
    let test = c.if-number-objects.false in
    let number = c.number.ensures.same in
    let count = c.objects.ensures.same in
    let made = c.requires.hand.now.stands.objects in
    let less : c.args.o < length (seen_world c.args.pass.now).objects = grind (arith, nat_tests, test, number, count, made) in
    ap (λ (k : _). Some k) (sym says.class) ∙ class_found (view c.args.pass.now) c.args.o word at keys_are c.requires.hand.kept c.requires.surface.out.held c.requires.surface.shut saw less
