use Rattle.std.proofs.Common.{◌≡◌, false, replicate, refl, subst}
use Rattle.std.proofs.lemmas.List.Elements.{All-replicate}
use Rattle.at_value.specs.Widths as widths
use Rattle.at_types.specs.Subclasses.{AreSubclasses}
use Rattle.at_types.proofs.classes.Classes.new_orders.Goals as goal

pub renew-requires-clause-walk : goal.renew-requires-clause-walk
renew-requires-clause-walk c = (
  replicate widths.classes false,
  All-replicate (λ marked. marked ≡ false) widths.classes false refl,
  (
    c.self.inside.subclasses,
    subst (λ classes. AreSubclasses classes c.self.inside.subclasses) c.self.view_is c.self.invariant.subclasses,
    rw (c.deref.ensures.value, ← c.number.ensures.same) c.in_ok-below.ensures.walk,
  ),
)
