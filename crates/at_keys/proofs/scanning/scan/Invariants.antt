use Rattle.at_core.specs.Passes.{view, IsOf, IsSame, HasSameHand}
use Rattle.at_keys.proofs.ScanLemmas.{Passed}
use Rattle.at_keys.proofs.scanning.scan.Given as goal

abbrev pub invariant-loop-i : goal.invariant-loop-i
invariant-loop-i l = IsSame l.initial.pass l.pass × IsOf l.pass l.world × HasSameHand l.initial.pass l.pass × Passed l.fn.c l.fn.n (view l.initial.pass) (view l.pass) l.i
