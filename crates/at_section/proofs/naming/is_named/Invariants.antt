use Rattle.std.proofs.Common.{◌≡◌, false, take}
use Rattle.at_core.specs.Passes.{notes}
use Rattle.at_section.specs.Surfaces.{named}
use Rattle.at_section.proofs.naming.is_named.Given as goal

-- none of so many names it
abbrev pub invariant-loop-i : goal.invariant-loop-i
invariant-loop-i l = named l.lock (take l.i (notes l.pass)) ≡ false
