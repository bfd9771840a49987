use Rattle.std.proofs.Common.{◌≡◌, map, take, get_or, []}
use Rattle.at_world.specs.Plain.{lists_of}
use Rattle.at_world.proofs.plain.orders.order_from.Given as goal

-- the bases so far, and their orders
abbrev pub invariant-loop-base : goal.invariant-loop-base
invariant-loop-base l = record {
  numbers : l.numbers.items ≡ take l.base-index l.bases;
  found : map (λ list. list.now) l.found.items ≡ map (λ b. get_or (lists_of l.orders) b []) (take l.base-index l.bases);
}
