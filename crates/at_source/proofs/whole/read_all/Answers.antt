use Rattle.std.proofs.Common.{◌∙◌, arith}
use Rattle.at_source.proofs.Known.{read_more}
use Rattle.at_source.proofs.whole.read_all.Goals as goal

pub loop-filled-preserved : goal.loop-filled-preserved
loop-filled-preserved g c = record {
  within = c.in_ok-count.ensures.fits;
  bound = c.in_ok-count.ensures.bound;
  room = omega (arith, c.in_ok-count.ensures.room, c.loop-filled.invariant.room);
  given = read_more _ _ _ _ _ _ _ c.loop-filled.invariant.given c.in_ok-count.ensures.prefix c.in_ok-count.ensures.given;
  no_fault = c.in_ok-count.ensures.no_fault (λ same. cc) ∙ c.loop-filled.invariant.no_fault;
}
