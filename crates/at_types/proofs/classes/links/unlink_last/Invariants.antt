use Rattle.std.proofs.Common.{◌≡◌, ◌≤◌, List, ℕ, take, length}
use Rattle.at_types.specs.Links.{linked, IsLinked}
use Rattle.at_types.proofs.classes.links.unlink_last.Given as goal

-- the class is below the bases that are left
abbrev pub invariant-loop-left : goal.invariant-loop-left
invariant-loop-left l = record {
  linked : (was : List (List ℕ)) → IsLinked was l.c l.bases l.initial.tree → l.tree ≡ linked was l.c (take l.left l.bases);
  within : l.left ≤ length l.bases;
}

abbrev pub decreases-loop-left : goal.decreases-loop-left
decreases-loop-left l = l.left
