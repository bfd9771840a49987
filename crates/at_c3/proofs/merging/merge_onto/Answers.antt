use Rattle.std.proofs.Common.{arith}
use Rattle.at_c3.specs.Slices.{contents}
use Rattle.at_c3.proofs.StepLemmas.{merge_goes_on, rests_get_shorter, head_left}
use Rattle.at_c3.proofs.RoomLemmas.{room_goes_on, tails_shorter}
use Rattle.at_c3.proofs.merging.merge_onto.Goals as goal

pub loop-head-smaller : goal.loop-head-smaller
loop-head-smaller c = rests_get_shorter c.in-Some.head _ _ c.in-Some.ensures c.remove_head.ensures.rests

pub loop-head-preserved : goal.loop-head-preserved
loop-head-preserved c = record {
  merged = merge_goes_on c.in-Some.head _ _ _ _ _ c.in-Some.ensures c.remove_head.ensures.rests c.in_ok-push.ensures.ok c.loop-head.invariant.merged;
  room = λ first. room_goes_on _ _ _ _ (c.loop-head.invariant.room first) c.in_ok-push.ensures.len c.in_ok-push.ensures.had_room (loop-head-smaller c);
  counts = c.remove_head.ensures.counts;
}

pub returns-in_err-count_tails-clause-room : goal.returns-in_err-count_tails-clause-room
returns-in_err-count_tails-clause-room c = λ room fits small.
    let no = c.in_err-count_tails.ensures.room c.new-in_tails.ensures small (omega (arith, tails_shorter (contents c.args.rests.now), fits)) in
    absurd (cc)

pub returns-in_err-push-clause-room : goal.returns-in_err-push-clause-room
returns-in_err-push-clause-room c = λ room fits small.
    let left = head_left c.in-Some.head (contents c.loop-head.rests) c.in-Some.ensures in
    let no = c.in_err-push.ensures.succeeds (omega (arith, c.loop-head.invariant.room room, left)) in
    absurd (cc)
