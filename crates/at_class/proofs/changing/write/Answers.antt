use Rattle.std.proofs.Common.{◌≡◌, refl, sym, ap, ◌∙◌}
use Rattle.at_value.specs.Packing.{words_of}
use Rattle.at_model.specs.History.{replay}
use Rattle.at_model.specs.Step.{step}
use Rattle.at_model.specs.World.{World}
use Rattle.at_core.specs.Opened.{opening_of}
use Rattle.at_core.specs.Passes.{view}
use Rattle.at_call.specs.UnderWay.{seen_world}
use Rattle.at_call.proofs.From.{from_then}
use Rattle.at_call.proofs.Keeping.{back_held, surface_held}
use Rattle.at_call.proofs.Writing.{answered_write, from_intended, from_written, held_intended, intended, under_intended, under_written}
use Rattle.at_class.proofs.Committed.{back_written, may_write, surface_written}
use Rattle.at_class.proofs.changing.write.Goals as goal

pub commit-place-requires-clause-may : goal.commit-place-requires-clause-may
commit-place-requires-clause-may g c =
    let q = c.args.pass.now in
    let m = c.intend.new.pass in
    let (before, hand, stepped) = c.requires.stepped in
    (c.args.op.now, may_write q m c.args.op.now before c.args.types.value c.args.reply (intended (view q) (view m) (words_of c.args.op.now) c.intend.ensures.stored) c.intend.ensures.intends c.requires.fresh c.requires.class c.requires.done hand stepped c.requires.surface.out.held)

pub end_call-requires-clause-surface : goal.end_call-requires-clause-surface
end_call-requires-clause-surface g c =
    let q = c.args.pass.now in
    let m = c.intend.new.pass in
    let i = intended (view q) (view m) (words_of c.args.op.now) c.intend.ensures.stored in
    let (at, next, after, does) = c.commit-place.ensures.written c.args.op.now c.intend.ensures.intends in
    surface_written m c.commit-place.new.pass at c.args.op.now c.requires.class does.saw c.commit-place.ensures.same.0 c.commit-place.ensures.same.2 after
    (surface_held q m c.intend.ensures.same.0 c.intend.ensures.same.2 (held_intended (view q) (view m) i) c.requires.surface)

pub end_call-requires-clause-back : goal.end_call-requires-clause-back
end_call-requires-clause-back g c =
    let q = c.args.pass.now in
    let m = c.intend.new.pass in
    let i = intended (view q) (view m) (words_of c.args.op.now) c.intend.ensures.stored in
    let (before, hand, stepped) = c.requires.stepped in
    let (at, next, after, does) = c.commit-place.ensures.written c.args.op.now c.intend.ensures.intends in
    back_written m c.commit-place.new.pass at c.args.op.now before c.args.types.value c.args.reply c.requires.class does.saw after
    (ap (λ x. x.hold.held) i.types ∙ c.requires.surface.out.held) (back_held q m before (held_intended (view q) (view m) i) hand.back) stepped

pub returns-clause-from : goal.returns-clause-from
returns-clause-from g c =
    let q = c.args.pass.now in
    let m = c.intend.new.pass in
    let r = c.commit-place.new.pass in
    let i = intended (view q) (view m) (words_of c.args.op.now) c.intend.ensures.stored in
    let (at, next, after, does) = c.commit-place.ensures.written c.args.op.now c.intend.ensures.intends in
    from_then q m c.end_call.new.pass (from_intended q m c.intend.ensures.same.0 i)
    (from_then m r c.end_call.new.pass (from_written m r at c.args.op.now c.commit-place.ensures.same.0 after does.saw.later) c.end_call.ensures.from)

pub returns-clause-done : goal.returns-clause-done
returns-clause-done g c ls p u own =
    let q = c.args.pass.now in
    let m = c.intend.new.pass in
    let r = c.commit-place.new.pass in
    let operation = c.args.op.now in
    let i = intended (view q) (view m) (words_of c.args.op.now) c.intend.ensures.stored in
    let (before, hand, stepped) = c.requires.stepped in
    let (at, next, after, does) = c.commit-place.ensures.written operation c.intend.ensures.intends in
    let um = under_intended ls p q m u c.requires.surface c.intend.ensures.same.0 i in
    let sm = surface_held q m c.intend.ensures.same.0 c.intend.ensures.same.2 (held_intended (view q) (view m) i) c.requires.surface in
    let seen : seen_world m ≡ seen_world q = ap (λ h. replay (opening_of (view q).who.limits) h.seen) i.history in
    let replied : c.args.reply ≡ (step (seen_world m) operation).reply = stepped.replies (seen_world q) hand.now.stands ∙ ap (λ (w : World). (step w operation).reply) (sym seen) in
    c.end_call.ensures.done ls p operation _ (under_written ls p m r at operation um sm c.commit-place.ensures.same.0 after does.saw.later)
    (answered_write ls p m r at operation _ um (ap (λ h. h.own) i.history ∙ own) after does next replied c.requires.done refl)
