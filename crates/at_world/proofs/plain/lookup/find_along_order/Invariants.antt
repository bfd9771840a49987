use Rattle.std.proofs.Common.{◌≡◌, drop}
use Rattle.at_model.specs.World.{find_along}
use Rattle.at_world.proofs.plain.lookup.find_along_order.Given as goal

-- the classes that are left give the value
abbrev pub invariant-loop-c : goal.invariant-loop-c
invariant-loop-c l = find_along l.classes (drop l.c-index l.order) l.n ≡ find_along l.classes l.order l.n
