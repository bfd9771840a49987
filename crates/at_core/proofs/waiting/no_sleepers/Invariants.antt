use Rattle.std.proofs.Common.{◌≡◌, length}
use Rattle.at_core.proofs.waiting.no_sleepers.Given as goal

abbrev pub invariant-loop : goal.invariant-loop
invariant-loop l = length l.counts.items ≡ l.counter
