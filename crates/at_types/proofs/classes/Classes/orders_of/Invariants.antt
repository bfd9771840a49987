use Rattle.std.proofs.Common.{◌≡◌, ◌++◌, drop, map}
use Rattle.std.specs.Option.{option_map}
use Rattle.at_model.specs.World.{all_orders}
use Rattle.at_types.specs.Renewing.{order_now, lists_of, AllAreClasses}
use Rattle.at_types.proofs.classes.Classes.orders_of.Given as goal

-- the orders so far, and those of the classes that are left
abbrev pub invariant-loop-base : goal.invariant-loop-base
invariant-loop-base l = record {
  orders :
      option_map (λ rest. lists_of l.orders.items ++ rest) (all_orders (map (order_now l.self l.renewed) (drop l.base-index l.bases)))
      ≡ all_orders (map (order_now l.self l.renewed) l.bases);
  classes : AllAreClasses (lists_of l.orders.items);
}
