use Rattle.std.proofs.Common.{◌∙◌, sym, subst}
use Rattle.at_value.specs.Pairs.{IsRising}
use Rattle.at_model.specs.World.{own_of, row_of}
use Rattle.at_core.proofs.Closing.{copied_more, copied_all}
use Rattle.at_core.proofs.close_world.own_of.Goals as goal

pub loop-pair-preserved : goal.loop-pair-preserved
loop-pair-preserved c = copied_more (own_of (row_of c.args.types.now.classes c.args.c)) c.loop-pair.items.items c.push.new.self.items c.len.result c.in-Some.pair
    (c.len.ensures ∙ c.loop-pair.items.ok.0) c.loop-pair.invariant (sym c.own_at.ensures ∙ c.in-Some.is) c.in_ok-push.ensures.items

pub of-requires : goal.of-requires
of-requires c =
    let w = c.requires.0 in
    let is = copied_all (own_of (row_of c.args.types.now.classes c.args.c)) c.loop-pair.items.items c.len.result
    (c.len.ensures ∙ c.loop-pair.items.ok.0) c.loop-pair.invariant (sym c.own_at.ensures ∙ c.in_default.is) in
    subst IsRising (sym is) (subst (λ (rows : _). IsRising (own_of (row_of rows c.args.c))) (sym c.requires.1.classes) (c.requires.2.owned c.args.c).rising)

pub returns : goal.returns
returns c = c.of.ensures ∙ copied_all (own_of (row_of c.args.types.now.classes c.args.c)) c.loop-pair.items.items c.len.result
    (c.len.ensures ∙ c.loop-pair.items.ok.0) c.loop-pair.invariant (sym c.own_at.ensures ∙ c.in_default.is)
