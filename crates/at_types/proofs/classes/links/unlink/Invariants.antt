use Rattle.std.proofs.Common.{◌≡◌, take}
use Rattle.at_types.specs.Links.{unlinked}
use Rattle.at_types.proofs.classes.links.unlink.Given as goal

-- the class has left the bases so far
abbrev pub invariant-loop-base : goal.invariant-loop-base
invariant-loop-base l = l.tree ≡ unlinked l.initial.tree l.c (take l.base-index l.bases)
