use Rattle.std.proofs.Common.{◌≡◌, true, List}
use Rattle.at_core.specs.declared.lock.Lock as lock
use Rattle.at_core.specs.Passes.{view, IsOf}
use Rattle.at_section.specs.Calls.{Moves}
use Rattle.at_section.specs.Deeds.{is_blocked}
use Rattle.at_section.specs.Surfaces.{IsReady}
use Rattle.at_section.proofs.Settling.{AreBacked}
use Rattle.at_section.proofs.taking.give_all.Given as goal

-- some locks were given
abbrev pub invariant-loop : goal.invariant-loop
invariant-loop g l = IsOf l.pass l.world × IsReady l.pass × (is_blocked (view l.pass) ≡ true)
    × ((ls : List lock.Lock) → Moves ls l.initial.pass l.pass) × (AreBacked l.initial.pass → AreBacked l.pass)
