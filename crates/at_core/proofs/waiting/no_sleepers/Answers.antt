use Rattle.std.proofs.Common.{[], ◌∷◌, ap, length, length-append, arith}
use Rattle.at_core.proofs.waiting.no_sleepers.Goals as goal

pub loop-preserved : goal.loop-preserved
loop-preserved c =
    let items = ap length c.in_ok-push.ensures.items in
    let more = length-append c.loop.counts.items (c.new.result ∷ []) in
    let held = c.loop.invariant in
    omega arith
