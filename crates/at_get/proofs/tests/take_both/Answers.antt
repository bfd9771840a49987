use Rattle.std.proofs.Common.{◌≡◌, ℕ, [], refl, sym, ap, ◌∙◌, subst}
use Rattle.std.proofs.lemmas.Bool.{eqb-true}
use Rattle.at_model.specs.World.{opening}
use Rattle.at_view.specs.declared.view.View.{View}
use Rattle.at_view.specs.Views.{first_view}
use Rattle.at_core.specs.declared.lock.Lock.TheVariants as locks
use Rattle.at_core.specs.Passes.{view}
use Rattle.at_core.specs.Plays.{IsAlone, Took}
use Rattle.at_core.specs.Steps.{taken}
use Rattle.at_core.proofs.Trials.{begun}
use Rattle.at_get.proofs.tests.take_both.Goals as goal

pub returns-clause-taken : goal.returns-clause-taken
returns-clause-taken c is =
    let first = c.requires.first in
    let got = c.try_lock.ensures.got c.if-try_lock-ne0.false in
    let free : c.try_lock-2.result ≡ 0 = eqb-true c.try_lock-2.result 0 is in
    let had = c.try_lock-2.ensures.got free in
    let v = view c.try_lock.new.pass in
    let took = subst (λ (o : ℕ). Took opening (locks.Row o) v had.0 had.1) c.requires.number had.4 in
    let one : v ≡ taken locks.Types (first_view c.args.world.now.limits) got.0 = got.2 ∙ ap (λ (x : View). taken locks.Types x got.0) first in
    let none : got.0.history ≡ [] = got.4.alone (subst IsAlone (sym first) (record { first = refl; childless = refl })) ∙ ap (λ (x : View). x.history.seen) first in
    let two : view c.try_lock-2.new.pass ≡ taken (locks.Row 0) v had.0 = had.2 ∙ ap (λ (o : ℕ). taken (locks.Row o) v had.0) c.requires.number in
    begun c.args.world.now.limits v (view c.try_lock-2.new.pass) got.0 had.0 one none two took.alone took.head
