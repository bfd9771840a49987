use Rattle.std.proofs.Common.{arith}
use Rattle.at_types.proofs.TagLemmas.{pool-next, next-out}
use Rattle.at_types.proofs.tags.TagPool.next.Goals as goal

pub invariant_of-self-2 : goal.invariant_of-self-2
invariant_of-self-2 c = (
  pool-next c.self.inside.size c.in_ok-tag.tag c.self.inside.given c.self.inside.freed c.saturating_add-self-inside.result c.pop_front.new.self.items c.self.inside.limbo.items
      (rw c.in_ok-tag.ensures.items at c.self.invariant.0)
      c.saturating_add-self-inside.ensures,
  (omega (arith, c.in_ok-tag.ensures.capacity), c.self.invariant.1.1),
)

pub returns-clause-out : goal.returns-clause-out
returns-clause-out c =
    next-out c.self.inside.size c.in_ok-tag.tag c.self.inside.given c.self.inside.freed c.saturating_add-self-inside.result c.pop_front.new.self.items c.self.inside.limbo.items
    (rw c.in_ok-tag.ensures.items at c.self.invariant.0)
