use Rattle.std.proofs.Common.{sym}
use Rattle.at_value.proofs.Places.{value}
use Rattle.at_value.proofs.sorted.get.Goals as goal

pub returns-then-is_at : goal.returns-then-is_at
returns-then-is_at c =
    rw c.place_of-place.ensures.place (sym (value c.args.n c.index-items-place.result c.args.items.now c.requires (c.is_at.ensures.there.0 c.if-is_at.true)))
