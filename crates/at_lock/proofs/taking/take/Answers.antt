use Rattle.std.proofs.Common.{suc, [], ◌∷◌, ◌++◌, length, refl, sym, ap, ◌∙◌, subst, arith}
use Rattle.std.proofs.lemmas.List.Elements.{All-nil, All-cons, All-append}
use Rattle.at_view.specs.declared.view.View.{View}
use Rattle.at_core.specs.Plays.{Found}
use Rattle.at_core.specs.Locks.{holds}
use Rattle.at_core.specs.Passes.{view}
use Rattle.at_core.specs.Steps.{missed}
use Rattle.at_core.proofs.HandOf.{empty_hand}
use Rattle.at_core.proofs.LockLemmas.{holds_missed}
use Rattle.at_lock.specs.Waits.{IsTakenAtOnce}
use Rattle.at_core.proofs.PassSteps.{same_pass, same_then}
use Rattle.at_lock.proofs.Waiting.{waited_more, holds_waited, found_then}
use Rattle.at_lock.proofs.Families.{taken_shut}
use Rattle.at_lock.proofs.taking.take.Goals as goal

pub loop-init : goal.loop-init
loop-init g c = (same_pass c.args.pass.now, c.requires.of, (λ k ne. refl), refl, [], refl, All-nil (λ holder. Found (view c.args.pass.now) (suc holder)))

pub try_take-requires-clause-of : goal.try_take-requires-clause-of
try_take-requires-clause-of g c = c.loop.invariant.1

pub try_take-requires-clause-out : goal.try_take-requires-clause-out
try_take-requires-clause-out g c =
    let so = c.loop.invariant in
    ap (holds c.args.lock) so.5 ∙ (holds_waited c.args.lock c.args.lock (view c.args.pass.now) so.4 ∙ c.requires.out c.args.lock)

pub try_take-requires-clause-room : goal.try_take-requires-clause-room
try_take-requires-clause-room g c =
    let empty = ap length (empty_hand c.args.pass.now c.requires.out) in
    let long = c.loop.invariant.3 in
    omega arith

pub returns-in-Got-clause-same : goal.returns-in-Got-clause-same
returns-in-Got-clause-same g c = (same_then c.args.pass.now c.loop.pass c.try_take.new.pass c.loop.invariant.0 c.try_take.ensures.same.0, c.try_take.ensures.same.1)

pub returns-in-Got-clause-taken : goal.returns-in-Got-clause-taken
returns-in-Got-clause-taken g c =
    let so = c.loop.invariant in
    let got = (c.try_take.ensures.got c.in-Got.is).0 in
    record { holders = so.4; found = so.6; last = subst (λ (v : View). IsTakenAtOnce c.args.lock v (view c.try_take.new.pass)) so.5 got }

pub returns-in-Got-clause-shut : goal.returns-in-Got-clause-shut
returns-in-Got-clause-shut g c = taken_shut c.args.lock (view c.args.pass.now) (view c.try_take.new.pass) c.requires.out (returns-in-Got-clause-taken g c)

pub returns-in-Got-clause-elsewhere : goal.returns-in-Got-clause-elsewhere
returns-in-Got-clause-elsewhere g c k ne = c.try_take.ensures.elsewhere k ne ∙ c.loop.invariant.2 k ne

pub wait_for-requires-clause-number : goal.wait_for-requires-clause-number
wait_for-requires-clause-number g c =
    let found = (c.try_take.ensures.held c.in-Held.holder c.in-Held.is).1 in
    let is = found.is in
    let small = found.small in
    omega arith

pub loop-preserved : goal.loop-preserved
loop-preserved g c =
    let so = c.loop.invariant in
    let l = c.args.lock in
    let holder = c.in-Held.holder in
    let v = view c.args.pass.now in
    let held = (c.try_take.ensures.held holder c.in-Held.is).0 in
    let found : Found v (suc holder) = found_then l v so.4 (suc holder) (subst (λ (w : View). Found w (suc holder)) so.5 (c.try_take.ensures.held holder c.in-Held.is).1) in (
      same_then c.args.pass.now c.loop.pass c.try_take.new.pass so.0 c.try_take.ensures.same.0,
      c.try_take.ensures.same.1,
      (λ k ne. c.try_take.ensures.elsewhere k ne ∙ so.2 k ne),
      c.try_take.ensures.as_long holder c.in-Held.is ∙ so.3,
      so.4 ++ holder ∷ [],
      held ∙ (ap (λ (w : View). missed l w (suc holder)) so.5 ∙ sym (waited_more l v so.4 holder)),
      All-append (λ h. Found v (suc h)) so.4 (holder ∷ []) so.6 (All-cons (λ h. Found v (suc h)) holder [] found (All-nil (λ h. Found v (suc h)))),
    )

pub wait_for-requires-clause-free : goal.wait_for-requires-clause-free
wait_for-requires-clause-free g c k =
    let so = c.loop.invariant in
    let held = (c.try_take.ensures.held c.in-Held.holder c.in-Held.is).0 in
    ap (holds k) held ∙ (holds_missed k c.args.lock (view c.loop.pass) (suc c.in-Held.holder) ∙ (ap (holds k) so.5 ∙ (holds_waited k c.args.lock (view c.args.pass.now) so.4 ∙ c.requires.out k)))
