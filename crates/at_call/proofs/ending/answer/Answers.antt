use Rattle.std.proofs.Common.{refl, ap, ◌∙◌}
use Rattle.at_call.proofs.Keeping.{hand_placed, surface_placed}
use Rattle.at_call.proofs.Reading.{answered_read}
use Rattle.at_call.proofs.UnderWays.{under_placed}
use Rattle.at_call.proofs.ending.answer.Goals as goal

pub end_call-requires-clause-surface : goal.end_call-requires-clause-surface
end_call-requires-clause-surface g c =
    let (at, long, after, saw, earlier) = c.now-place.ensures.loaded in
    surface_placed c.args.pass.now c.now-place.new.pass at c.now-place.ensures.same.0 c.now-place.ensures.same.2 after c.requires.surface

pub end_call-requires-clause-back : goal.end_call-requires-clause-back
end_call-requires-clause-back g c =
    let (at, long, after, saw, earlier) = c.now-place.ensures.loaded in
    (hand_placed c.args.pass.now c.now-place.new.pass at c.args.types.value after saw c.requires.surface.out.held c.requires.hand).back

pub returns-clause-own : goal.returns-clause-own
returns-clause-own g c =
    let (at, long, after, saw, earlier) = c.now-place.ensures.loaded in
    c.end_call.ensures.own ∙ ap (λ v. v.history.own) after

pub returns-clause-done : goal.returns-clause-done
returns-clause-done g c ls p operation u own read =
    let (at, long, after, saw, earlier) = c.now-place.ensures.loaded in
    let q = c.args.pass.now in
    let r = c.now-place.new.pass in
    c.end_call.ensures.done ls p operation _ (under_placed ls p q r at u c.requires.surface c.now-place.ensures.same.0 after saw)
    (answered_read ls p q r operation _ at u own c.requires.surface.out.held c.requires.hand.kept read after saw long refl)
