use Rattle.std.proofs.Common.{refl, ap, arith, length}
use Rattle.at_types.specs.Tags.{TagState}
use Rattle.at_types.proofs.TagLemmas.{pool-with_row}
use Rattle.at_types.proofs.tags.TagPool.set_goal.Goals as goal

pub invariant_of-self : goal.invariant_of-self
invariant_of-self c = (
  pool-with_row c.self.inside.size c.self.inside.given c.self.inside.freed c.from.result c.self.inside.free.items c.self.inside.limbo.items c.index_mut.result.now _
      c.self.invariant.0 (omega (arith, c.from.ensures, c.requires, ap (λ (s : TagState). length s.limbo) c.self.view_is)) c.index_mut.ensures.value refl,
  c.self.invariant.1,
)
