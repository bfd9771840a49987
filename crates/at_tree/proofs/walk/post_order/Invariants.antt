use Rattle.std.proofs.Common.{map, reverse}
use Rattle.at_tree.proofs.Stages.{Going, work}
use Rattle.at_tree.proofs.walk.post_order.Given as goal

abbrev pub invariant-walk : goal.invariant-walk
invariant-walk l = Going (map (λ v. v.items) l.lists) l.stop l.c l.seen.items (reverse l.stages.items) l.list.items

abbrev pub decreases-walk : goal.decreases-walk
decreases-walk l = work (map (λ v. v.items) l.lists) l.stop l.seen.items l.stages.items
