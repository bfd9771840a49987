use Rattle.std.proofs.Common.{sym, subst, arith}
use Rattle.at_tree.specs.Tree.{IsTree}
use Rattle.at_tree.proofs.Changes.{empty}
use Rattle.at_tree.proofs.Tree.new.Goals as goal

pub invariant_of-result : goal.invariant_of-result
invariant_of-result c = subst IsTree (sym c.loop.invariant.lists) (empty c.loop.counter (omega arith))
