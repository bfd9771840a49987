use Rattle.std.proofs.Common.{◌∙◌, ap, ℕ, set}
use Rattle.std.proofs.lemmas.List.{map-set}
use Rattle.smallvec.specs.SmallVec.{SmallVec}
use Rattle.at_world.specs.Plain.{lists_of}
use Rattle.at_world.proofs.plain.orders.put_order.Goals as goal

pub returns : goal.returns
returns c =
    map-set (λ (l : SmallVec ℕ). l.items) c.args.orders.now c.from.result c.args.order
    ∙ ap (λ i. set (lists_of c.args.orders.now) i c.args.order.items) c.from.ensures
