use Rattle.at_core.specs.Passes.{view, IsOf}
use Rattle.at_core.specs.Locks.{HoldsNone}
use Rattle.at_lock.proofs.tests.passes_run_out.Given as goal

abbrev pub invariant-loop : goal.invariant-loop
invariant-loop g l = IsOf l.pass l.world × HoldsNone (view l.pass)
