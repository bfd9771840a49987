use Rattle.std.proofs.Common.{◌≡◌, ◌∙◌, ap, sym, Some, set}
use Rattle.std.proofs.lemmas.List.{set-get_or}
use Rattle.at_value.proofs.Maps.{without-absent}
use Rattle.at_model.specs.World.{Map}
use Rattle.at_world.proofs.plain.classes.cut_own.Goals as goal

pub returns-in-Some-clause-absent : goal.returns-in-Some-clause-absent
returns-in-Some-clause-absent c = λ absent.
    let own : c.cut.new.self ≡ c.in-Some.row.own = c.cut.ensures.rest ∙ without-absent c.args.n c.in-Some.row.own (sym c.cut.ensures.value ∙ absent) in
    ap (λ (own : Map). set c.args.classes.now c.from.result (Some (record c.in-Some.row { own = own }))) own
    ∙ ap (set c.args.classes.now c.from.result) (sym c.in-Some.is)
    ∙ set-get_or c.args.classes.now c.from.result c.index-classes-from.result
