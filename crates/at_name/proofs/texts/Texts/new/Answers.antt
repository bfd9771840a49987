use Rattle.at_name.proofs.Tables.{AreDistinct-nil}
use Rattle.at_name.proofs.texts.Texts.new.Goals as goal

pub invariant_of-result : goal.invariant_of-result
invariant_of-result g c = rw c.new.ensures.empty (AreDistinct-nil g.row.MOST)
