use Rattle.std.proofs.Common.{◌∙◌, sym, subst}
use Rattle.at_value.specs.Pairs.{IsRising}
use Rattle.at_core.proofs.Closing.{copied_more, copied_all}
use Rattle.at_core.proofs.object_end.copy_of.Goals as goal

pub loop-pair-preserved : goal.loop-pair-preserved
loop-pair-preserved c = copied_more c.args.body.now.map c.loop-pair.items.items c.push.new.self.items c.len-in-loop-pair.result c.in-Some.pair
    (c.len-in-loop-pair.ensures ∙ c.loop-pair.items.ok.0) c.loop-pair.invariant (sym c.at.ensures ∙ c.in-Some.is) c.in_ok-push.ensures.items

pub of-requires : goal.of-requires
of-requires c =
    let is = copied_all c.args.body.now.map c.loop-pair.items.items c.len-in-loop-pair.result
    (c.len-in-loop-pair.ensures ∙ c.loop-pair.items.ok.0) c.loop-pair.invariant (sym c.at.ensures ∙ c.in_default.is) in
    subst IsRising (sym is) c.len.ensures.rising

pub returns : goal.returns
returns c = c.of.ensures ∙ copied_all c.args.body.now.map c.loop-pair.items.items c.len-in-loop-pair.result
    (c.len-in-loop-pair.ensures ∙ c.loop-pair.items.ok.0) c.loop-pair.invariant (sym c.at.ensures ∙ c.in_default.is)
