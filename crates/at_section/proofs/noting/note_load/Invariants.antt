use Rattle.std.proofs.Common.{◌≡◌, map, take, drop, ◌++◌, length}
use Rattle.at_core.specs.Passes.{notes, view, IsNoted}
use Rattle.at_section.specs.Deeds.{held}
use Rattle.at_section.specs.Sections.{after_load}
use Rattle.at_section.proofs.noting.note_load.Given as goal

-- so many notes are changed
abbrev pub invariant-loop-i : goal.invariant-loop-i
invariant-loop-i l = IsNoted l.initial.pass l.pass × (length (notes l.pass) ≡ length (notes l.initial.pass))
    × (notes l.pass ≡ map (after_load (held (view l.initial.pass))) (take l.i (notes l.initial.pass)) ++ drop l.i (notes l.initial.pass))
