use Rattle.std.proofs.Common.{◌≡◌, ◌∙◌, ap, [], ◌∷◌, ◌++◌, arith, length}
use Rattle.std.proofs.lemmas.List.{map_push}
use Rattle.at_c3.specs.Slices.{contents}
use Rattle.at_c3.proofs.RoomLemmas.{merge_room}
use Rattle.at_c3.proofs.merging.order_of_slices.Goals as goal

pub returns-clause-room : goal.returns-clause-room
returns-clause-room c = λ fits.
    let lists : contents c.deref_mut.result.now ≡ contents c.args.orders.now ++ c.args.bases.now ∷ [] =
    ap contents (c.deref_mut.ensures.value ∙ c.in_ok-push.ensures.ok)
    ∙ ap (λ orders. contents (orders ++ c.args.bases ∷ [])) c.in_ok-rests.ensures.ok
    ∙ map_push (λ slice. slice.now) c.args.orders.now c.args.bases
    in
    let empty = ap length c.new-prefix.ensures.items in
    let len : length c.push-2.new.self.items ≡ 1 = ap length (c.in_ok-push-2.ensures.ok ∙ ap (λ l. l ++ c.args.c ∷ []) c.new-prefix.ensures.items) in
    let capacity = c.in_ok-push-2.ensures.had_room (omega (arith, empty, c.new-prefix.ensures.capacity)) ∙ c.new-prefix.ensures.capacity in
    merge_room c.push-2.new.self 1 _ (contents c.deref_mut.result.now) _ lists fits len (omega (arith, capacity)) (omega arith) c.merge_onto.ensures.room
