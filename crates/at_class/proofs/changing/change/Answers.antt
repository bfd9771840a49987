use Rattle.std.proofs.Common.{◌≡◌, ◌<◌, ◌≤◌, true, false, true≢false, None, sym, ap, ◌∙◌, subst, arith}
use Rattle.std.proofs.lemmas.Bool.Decides.{nat_tests}
use Rattle.at_value.specs.declared.limits.Limits.{Limits}
use Rattle.at_model.specs.Step.{is_done}
use Rattle.at_core.specs.Passes.{view}
use Rattle.at_section.specs.Sections.{in_order}
use Rattle.at_call.specs.UnderWay.{HasInHand}
use Rattle.at_call.proofs.From.{step_more}
use Rattle.at_call.proofs.Keeping.{hand_placed, surface_placed}
use Rattle.at_call.proofs.UnderWays.{under_placed}
use Rattle.at_class.proofs.Changed.{is_full, kept_types, loaded_place, refused_now}
use Rattle.at_class.proofs.changing.change.Goals as goal

pub end_call-requires-clause-surface : goal.end_call-requires-clause-surface
end_call-requires-clause-surface g c =
    let (at, long, after, saw, earlier) = c.now-place.ensures.loaded in
    surface_placed c.begin_call-types.new.pass c.now-place.new.pass at c.now-place.ensures.same.0 c.now-place.ensures.same.2 after c.begin_call-types.ensures.surface

pub returns-in_default-clause-fault : goal.returns-in_default-clause-fault
returns-in_default-clause-fault g c =
    let p = c.args.pass.now in
    let q = c.begin_call-types.new.pass in
    let r = c.now-place.new.pass in
    let ls = in_order true None None in
    let (at, long, after, saw, earlier) = c.now-place.ensures.loaded in (
      c.end_call.ensures.leaves ls p (under_placed ls p q r at c.begin_call-types.ensures.under c.begin_call-types.ensures.surface c.now-place.ensures.same.0 after saw),
      c.end_call.ensures.own ∙ (ap (λ v. v.history.own) after ∙ c.begin_call-types.ensures.unwritten),
    )

pub answer-requires-clause-surface : goal.answer-requires-clause-surface
answer-requires-clause-surface g c =
    let (at, long, after, saw, earlier) = c.now-place.ensures.loaded in
    surface_placed c.begin_call-types.new.pass c.now-place.new.pass at c.now-place.ensures.same.0 c.now-place.ensures.same.2 after c.begin_call-types.ensures.surface

pub answer-requires-clause-hand : goal.answer-requires-clause-hand
answer-requires-clause-hand g c =
    let q = c.begin_call-types.new.pass in
    let r = c.now-place.new.pass in
    let (at, long, after, saw, earlier) = c.now-place.ensures.loaded in
    let hand = hand_placed q r at c.begin_call-types.result.value after saw c.begin_call-types.ensures.surface.out.held c.begin_call-types.ensures.hand in
    let hand : HasInHand r c.deref_mut.result.now = subst (HasInHand r) (sym c.deref_mut.ensures.value) hand in
    let refused : is_done c.in-Ok.reply ≡ false = sym c.is_done.ensures ∙ c.if-not-is_done.true in
    subst (HasInHand r) (sym (kept_types r c.args.op.now c.deref_mut.result.now c.attempt.new.types c.in-Ok.reply _ hand c.in-Ok.ensures.left c.in-Ok.ensures.stepped refused)) hand

pub returns-then-not-is_done-clause-change : goal.returns-then-not-is_done-clause-change
returns-then-not-is_done-clause-change g c =
    let p = c.args.pass.now in
    let q = c.begin_call-types.new.pass in
    let r = c.now-place.new.pass in
    let ls = in_order true None None in
    let (at, long, after, saw, earlier) = c.now-place.ensures.loaded in
    let hand = hand_placed q r at c.begin_call-types.result.value after saw c.begin_call-types.ensures.surface.out.held c.begin_call-types.ensures.hand in
    let hand : HasInHand r c.deref_mut.result.now = subst (HasInHand r) (sym c.deref_mut.ensures.value) hand in
    let refused : is_done c.in-Ok.reply ≡ false = sym c.is_done.ensures ∙ c.if-not-is_done.true in
    record {
      done = c.answer.ensures.done ls p c.args.op.now (under_placed ls p q r at c.begin_call-types.ensures.under c.begin_call-types.ensures.surface c.now-place.ensures.same.0 after saw)
          (ap (λ v. v.history.own) after ∙ c.begin_call-types.ensures.unwritten)
          (refused_now r c.args.op.now c.deref_mut.result.now c.in-Ok.reply c.requires.class hand c.in-Ok.ensures.reply refused);
      below = λ done. absurd (true≢false (sym done ∙ (ap is_done c.answer.ensures.reply ∙ refused)));
    }

pub end_call-requires-then-full-clause-surface : goal.end_call-requires-then-full-clause-surface
end_call-requires-then-full-clause-surface g c =
    let (at, long, after, saw, earlier) = c.now-place.ensures.loaded in
    surface_placed c.begin_call-types.new.pass c.now-place.new.pass at c.now-place.ensures.same.0 c.now-place.ensures.same.2 after c.begin_call-types.ensures.surface

pub returns-then-full-clause-fault : goal.returns-then-full-clause-fault
returns-then-full-clause-fault g c =
    let p = c.args.pass.now in
    let q = c.begin_call-types.new.pass in
    let r = c.now-place.new.pass in
    let s = c.end_call-then-full.new.pass in
    let ls = in_order true None None in
    let (at, long, after, saw, earlier) = c.now-place.ensures.loaded in
    let hand = hand_placed q r at c.begin_call-types.result.value after saw c.begin_call-types.ensures.surface.out.held c.begin_call-types.ensures.hand in
    let hand : HasInHand r c.deref_mut.result.now = subst (HasInHand r) (sym c.deref_mut.ensures.value) hand in
    let under = under_placed ls p q r at c.begin_call-types.ensures.under c.begin_call-types.ensures.surface c.now-place.ensures.same.0 after saw in
    let done : is_done c.in-Ok.reply ≡ true = sym c.is_done.ensures ∙ c.if-not-is_done.false in
    let test = c.if-full.true in
    let limits = ap (λ (x : Limits). x.place_max) c.limits.ensures in
    let of = ap (λ (x : Limits). x.place_max) c.requires.of.limits in
    let past : (view p).who.limits.place_max ≤ c.now-place.result.0 = grind (arith, nat_tests, test, limits, of) in
    is_full p q r s at c.args.op.now c.deref_mut.result.now c.in-Ok.reply c.now-place.result.0 c.begin_call-types.ensures.under.from saw.later after long
    (loaded_place ls p q r at c.now-place.result.0 c.begin_call-types.ensures.under after long) c.end_call-then-full.ensures.from
    (c.end_call-then-full.ensures.leaves ls p under, c.end_call-then-full.ensures.own ∙ (ap (λ v. v.history.own) after ∙ c.begin_call-types.ensures.unwritten))
    past hand c.in-Ok.ensures.reply done

pub write-requires-clause-surface : goal.write-requires-clause-surface
write-requires-clause-surface g c =
    let (at, long, after, saw, earlier) = c.now-place.ensures.loaded in
    surface_placed c.begin_call-types.new.pass c.now-place.new.pass at c.now-place.ensures.same.0 c.now-place.ensures.same.2 after c.begin_call-types.ensures.surface

pub write-requires-clause-stepped : goal.write-requires-clause-stepped
write-requires-clause-stepped g c =
    let q = c.begin_call-types.new.pass in
    let r = c.now-place.new.pass in
    let (at, long, after, saw, earlier) = c.now-place.ensures.loaded in
    let hand = hand_placed q r at c.begin_call-types.result.value after saw c.begin_call-types.ensures.surface.out.held c.begin_call-types.ensures.hand in
    let less = c.if-full.false in
    (c.deref_mut.result.now, subst (HasInHand r) (sym c.deref_mut.ensures.value) hand, c.in-Ok.ensures.stepped (grind (arith, nat_tests, less)))

pub returns-clause-change : goal.returns-clause-change
returns-clause-change g c =
    let p = c.args.pass.now in
    let q = c.begin_call-types.new.pass in
    let r = c.now-place.new.pass in
    let ls = in_order true None None in
    let (at, long, after, saw, earlier) = c.now-place.ensures.loaded in
    let under = under_placed ls p q r at c.begin_call-types.ensures.under c.begin_call-types.ensures.surface c.now-place.ensures.same.0 after saw in
    let test = c.if-full.false in
    let limits = ap (λ (x : Limits). x.place_max) c.limits.ensures in
    let of = ap (λ (x : Limits). x.place_max) c.requires.of.limits in
    let less : c.now-place.result.0 < (view p).who.limits.place_max = grind (arith, nat_tests, test, limits, of) in
    record {
      done = c.write.ensures.done ls p under (ap (λ v. v.history.own) after ∙ c.begin_call-types.ensures.unwritten);
      below = λ done. (c.now-place.result.0, less, step_more p r c.write.new.pass (loaded_place ls p q r at c.now-place.result.0 c.begin_call-types.ensures.under after long) c.write.ensures.from);
    }
