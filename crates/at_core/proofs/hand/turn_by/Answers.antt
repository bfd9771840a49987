use Rattle.std.proofs.Common.{◌<◌, length, ap, ◌∙◌, arith}
use Rattle.atomic_table.specs.Table.{turned}
use Rattle.at_core.proofs.HandLemmas.{turned_more}
use Rattle.at_core.proofs.hand.turn_by.Goals as goal

pub loop-preserved : goal.loop-preserved
loop-preserved c =
    let held = c.loop.invariant in
    let turn = c.turn.ensures in
    let me = c.args.seat.now.me in
    let lt : c.loop.counter < length me.1 = (let most = c.requires in omega arith) in
    (turn.0 ∙ held.0, turn.1 ∙ held.1, turn.2 ∙ (ap (λ m. (m.0, turned m.1)) held.2 ∙ ap (λ slots. (me.0, slots)) (turned_more c.loop.counter me.1 lt)))
