use Rattle.std.proofs.Common.{◌≡◌, drop}
use Rattle.at_model.specs.World.{find_along}
use Rattle.at_types.proofs.classes.find_from.Given as goal

-- no class so far has the name
abbrev pub invariant-loop-i : goal.invariant-loop-i
invariant-loop-i l = find_along l.rows (drop l.start l.order) l.n ≡ find_along l.rows (drop l.i l.order) l.n
