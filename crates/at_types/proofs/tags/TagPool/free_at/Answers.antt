use Rattle.std.proofs.Common.{ap, arith, length}
use Rattle.at_types.specs.Tags.{TagState}
use Rattle.at_types.proofs.TagLemmas.{pool-freed}
use Rattle.at_types.proofs.tags.TagPool.free_at.Goals as goal

pub invariant_of-self : goal.invariant_of-self
invariant_of-self c = (
  rw (c.push_back_reserved.ensures.items, c.remove-row.ensures.items)
      (pool-freed c.self.inside.size c.self.inside.given c.self.inside.freed c.saturating_add-self-inside.result c.from.result c.self.inside.free.items c.self.inside.limbo.items c.remove-row.result
      c.self.invariant.0 (omega (arith, c.from.ensures, c.requires, ap (λ (s : TagState). length s.limbo) c.self.view_is)) c.remove-row.ensures.value c.saturating_add-self-inside.ensures),
  (omega (arith, c.push_back_reserved.ensures.capacity, c.self.invariant.1.0), omega (arith, c.remove-row.ensures.capacity, c.self.invariant.1.1)),
)
