use Rattle.std.proofs.Common.{◌≡◌, ◌<◌, true, List, [], length, refl, sym, ap, ◌∙◌, subst, arith}
use Rattle.std.specs.Prelude.{nat_lt}
use Rattle.std.proofs.lemmas.Bool.Decides.{nat_tests}
use Rattle.at_value.specs.declared.limits.Limits.{Limits}
use Rattle.at_value.specs.declared.operation.Op as op
use Rattle.at_model.specs.World.{opening}
use Rattle.at_view.specs.declared.view.View.{View}
use Rattle.at_view.specs.Views.{first_view}
use Rattle.at_core.specs.declared.lock.Lock.TheVariants as locks
use Rattle.at_core.specs.PlaceSteps.{MayCommit, place_loaded, intent_stored}
use Rattle.at_core.specs.Passes.{view}
use Rattle.at_core.specs.Plays.{IsAlone}
use Rattle.at_core.specs.SomeRun.{new_class}
use Rattle.at_core.specs.Steps.{Moment, taken}
use Rattle.at_core.proofs.SomeRunWrites.{one_base, covers_none}
use Rattle.at_core.proofs.tests.make_class.Goals as goal

-- what the first pass knows once it has the lock of the types, has loaded the place and intends the class
abbrev intending : Limits → Moment → List op.Op → View
intending limits at history = intent_stored (place_loaded (taken locks.Types (first_view limits) at) history) 0 16777473

may_commit : (limits : Limits) (at : Moment) → 0 < limits.place_max → MayCommit opening (intending limits at []) new_class
may_commit limits at room = record {
  write = record {
    intends = ((omega arith, (omega arith, one_base)), refl);
    fresh = (let yes : nat_lt 0 limits.place_max ≡ true = grind (arith, nat_tests, room) in yes);
    write = refl;
    covers = covers_none _ _ _ refl refl;
  };
  types = refl;
}

pub try_lock-requires-clause-out : goal.try_lock-requires-clause-out
try_lock-requires-clause-out c = ap (λ (v : View). v.types.hold.held) c.requires.first

pub try_lock-requires-clause-room : goal.try_lock-requires-clause-room
try_lock-requires-clause-room c = let e = ap length c.requires.empty in omega (arith, e)

pub commit-requires-clause-may : goal.commit-requires-clause-may
commit-requires-clause-may c =
    let limits = c.args.world.now.limits in
    let first = c.requires.first in
    let got = c.try_lock.ensures.got c.if-try_lock-ne0.false in
    let loaded = c.load_place.ensures.loaded in
    let alone : IsAlone (first_view limits) = record { first = refl; childless = refl } in
    let took : view c.try_lock.new.pass ≡ taken locks.Types (first_view limits) got.0 = got.2 ∙ ap (λ (v : View). taken locks.Types v got.0) first in
    let none_before : got.0.history ≡ [] = got.4.alone (subst IsAlone (sym first) alone) ∙ ap (λ (v : View). v.history.seen) first in
    let still_alone : IsAlone (taken locks.Types (first_view limits) got.0) = record { first = refl; childless = refl } in
    let none_now : loaded.0 ≡ [] = loaded.3.alone (subst IsAlone (sym took) still_alone) ∙ (ap (λ (v : View). v.history.seen) took ∙ none_before) in
    let is : view c.store_intent.new.pass ≡ intending limits got.0 loaded.0 = c.store_intent.ensures.stored ∙ ap (λ (v : View). intent_stored v 0 16777473) (loaded.2 ∙ ap (λ (v : View). place_loaded v loaded.0) took) in
    (new_class, subst (λ (v : View). MayCommit opening v new_class) (sym (is ∙ ap (intending limits got.0) none_now)) (may_commit limits got.0 c.requires.room))
