use Rattle.std.specs.Prelude.{All}
use Rattle.at_core.specs.Plays.{Found}
use Rattle.std.proofs.Common.{suc, ℕ, ◌≡◌, List, length}
use Rattle.at_core.specs.Passes.{view, hand, IsOf, IsSame, IsElsewhereSame}
use Rattle.at_lock.specs.Waits.{waited}
use Rattle.at_lock.proofs.taking.take.Given as goal

-- the lock was found held so far
abbrev pub invariant-loop : goal.invariant-loop
invariant-loop g l =
    IsSame l.initial.pass l.pass × IsOf l.pass l.world × IsElsewhereSame l.initial.pass l.pass l.fn.lock × (length (hand l.pass) ≡ length (hand l.initial.pass))
    × (holders : List ℕ) × (view l.pass ≡ waited l.fn.lock (view l.initial.pass) holders) × All (λ holder. Found (view l.initial.pass) (suc holder)) holders
