use Rattle.std.proofs.Common.{ℕ, List, ◌++◌, take}
use Rattle.at_c3.specs.Counts.{AreCountsOf}
use Rattle.at_c3.proofs.counts.Counts.add_all.Given as goal

-- the numbers before the index are counted
abbrev pub invariant-loop-number : goal.invariant-loop-number
invariant-loop-number l =
    (before : List ℕ) → AreCountsOf l.fn.self.counts.items before → AreCountsOf l.self.counts.items (before ++ take l.number-index l.numbers)
