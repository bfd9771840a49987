use Rattle.std.proofs.Common.{◌≡◌, take}
use Rattle.at_world.specs.Plain.{lists_of}
use Rattle.at_world.proofs.plain.orders.copies_of.Given as goal

-- the lists so far
abbrev pub invariant-loop-order : goal.invariant-loop-order
invariant-loop-order l = lists_of l.copies.items ≡ lists_of (take l.order-index l.orders)
