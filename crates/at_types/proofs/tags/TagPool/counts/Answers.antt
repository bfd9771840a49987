use Rattle.std.proofs.Common.{subst, arith}
use Rattle.at_types.specs.Tags.{AreSingle}
use Rattle.at_types.proofs.tags.TagPool.counts.Goals as goal

pub overflow_cast-result : goal.overflow_cast-result
overflow_cast-result c = omega (arith, c.len.ensures, c.self.invariant.0.true_counts.fits, c.self.invariant.0.small)

pub overflow_cast-result-2 : goal.overflow_cast-result-2
overflow_cast-result-2 c = omega (arith, c.len-2.ensures, c.self.invariant.0.true_counts.fits, c.self.invariant.0.small)

pub returns-clause-single : goal.returns-clause-single
returns-clause-single c = subst AreSingle c.self.view_is c.self.invariant.0.single
