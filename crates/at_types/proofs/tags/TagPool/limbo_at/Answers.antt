use Rattle.std.proofs.Common.{◌≡◌, ◌∙◌, IfSome, slice_get, subst, ap}
use Rattle.at_types.specs.Tags.{TagState, IsInLimbo}
use Rattle.at_types.proofs.TagLemmas.{rows-in_limbo}
use Rattle.at_types.proofs.tags.TagPool.limbo_at.Goals as goal

pub returns-clause-in_limbo : goal.returns-clause-in_limbo
returns-clause-in_limbo c =
    let is : c.row_at.result ≡ slice_get c.self.inside.limbo.items c.args.i = c.row_at.ensures ∙ ap (λ rows. slice_get rows c.args.i) c.deref.ensures.value in
    subst (λ (s : TagState). IfSome c.row_at.result (λ row. IsInLimbo s row.tag)) c.self.view_is
    (rw is (rows-in_limbo c.self.inside.size c.self.inside.given c.self.inside.freed c.args.i c.self.inside.free.items c.self.inside.limbo.items c.self.invariant.0))
