use Rattle.std.proofs.Common.{◌≡◌, ◌-◌, ◌+◌, ℕ, slice_index}
use Rattle.smallvec.specs.SmallVec.{small_vec_len}
use Rattle.at_c3.proofs.counts.Counts.reach.Given as goal

-- no count has changed
abbrev pub invariant-loop-self : goal.invariant-loop-self
invariant-loop-self l = (n : ℕ) → slice_index l.self.counts.items n ≡ slice_index l.fn.self.counts.items n

-- the places that are missing
abbrev pub decreases-loop-self : goal.decreases-loop-self
decreases-loop-self l = l.number + 1 - small_vec_len l.self.counts
