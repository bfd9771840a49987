use Rattle.std.proofs.Common.{◌∙◌, ap, sym, get_or, set}
use Rattle.std.proofs.lemmas.List.{set-get_or}
use Rattle.at_value.proofs.Maps.{without-absent}
use Rattle.at_world.proofs.plain.objects.cut_in_dict.Goals as goal

pub returns-then-i-dicts-clause-absent : goal.returns-then-i-dicts-clause-absent
returns-then-i-dicts-clause-absent c = λ absent.
    ap (set c.args.dicts.now c.from-i.result)
    (c.cut.ensures.rest ∙ without-absent c.args.n (get_or c.args.dicts.now c.from-i.result c.index-dicts-i.result) (sym c.cut.ensures.value ∙ absent))
    ∙ set-get_or c.args.dicts.now c.from-i.result c.index-dicts-i.result
