use Rattle.std.proofs.Common.{arith, subst, sym, refl}
use Rattle.at_types.specs.Tags.{TagState, IsOut, new_row}
use Rattle.at_types.proofs.TagLemmas.{pool-in_limbo, pool-room}
use Rattle.at_types.proofs.tags.TagPool.to_limbo.Goals as goal

pub push_reserved-requires : goal.push_reserved-requires
push_reserved-requires c =
    omega (
      arith,
      c.self.invariant.1.1,
      pool-room c.self.inside.size c.self.inside.given c.self.inside.freed c.args.tag c.self.inside.free.items c.self.inside.limbo.items (new_row c.args.tag)
          c.self.invariant.0 (subst (λ (s : TagState). IsOut s c.args.tag) (sym c.self.view_is) c.requires) refl,
    )

pub invariant_of-self : goal.invariant_of-self
invariant_of-self c = (
  rw c.push_reserved.ensures.items
      (pool-in_limbo c.self.inside.size c.self.inside.given c.self.inside.freed c.args.tag c.self.inside.free.items c.self.inside.limbo.items (new_row c.args.tag)
      c.self.invariant.0 (subst (λ (s : TagState). IsOut s c.args.tag) (sym c.self.view_is) c.requires) refl),
  (c.self.invariant.1.0, omega (arith, c.push_reserved.ensures.capacity, c.self.invariant.1.1)),
)
