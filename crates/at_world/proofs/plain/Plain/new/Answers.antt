use Rattle.at_world.proofs.Definitions.{IsCoherent-opening}
use Rattle.at_world.proofs.plain.Plain.new.Goals as goal

pub invariant_of-result : goal.invariant_of-result
invariant_of-result c = IsCoherent-opening _ _ _ _ c.in_ok-first_classes.ensures c.in_ok-first_orders.ensures c.new.ensures.items c.new-2.ensures.items
