use Rattle.std.proofs.Common.{◌∙◌, ap, arith, length}
use Rattle.at_c3.specs.Slices.{contents}
use Rattle.at_c3.proofs.RoomLemmas.{merge_room}
use Rattle.at_c3.proofs.merging.merge.Goals as goal

pub returns-clause-room : goal.returns-clause-room
returns-clause-room c = λ fits.
    merge_room c.new.result 0 _ (contents c.deref_mut.result.now) _ (ap contents c.deref_mut.ensures.value ∙ c.in_ok-slices_of.ensures.slices) fits (ap length c.new.ensures.items)
    (omega (arith, c.new.ensures.capacity)) (omega arith) c.merge_onto-2.ensures.room
