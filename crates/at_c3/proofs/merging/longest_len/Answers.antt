use Rattle.std.proofs.Math.Nat.{max-le}
use Rattle.at_c3.proofs.RoomLemmas.{one_no_longer}
use Rattle.at_c3.proofs.merging.longest_len.Goals as goal

pub loop-list-preserved : goal.loop-list-preserved
loop-list-preserved c = rw c.max-longest.ensures (max-le (one_no_longer c.args.lists.now c.loop-list.list-index _ c.loop-list-test.true) c.loop-list.invariant)
