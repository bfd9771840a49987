use Rattle.std.proofs.Common.{◌≡◌, ℕ, [], take}
use Rattle.at_tree.specs.Tree.{Reaches}
use Rattle.at_types.specs.Links.{linked}
use Rattle.at_types.proofs.classes.links.link.Given as goal

-- the class is below the bases so far
abbrev pub invariant-loop-i : goal.invariant-loop-i
invariant-loop-i l = record {
  linked : l.tree ≡ linked l.initial.tree l.c (take l.i l.bases);
  below : (d : ℕ) → Reaches l.tree [] l.c d → Reaches l.initial.tree [] l.c d;
}
