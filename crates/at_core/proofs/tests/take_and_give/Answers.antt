use Rattle.std.proofs.Common.{sym, subst}
use Rattle.at_model.specs.World.{opening}
use Rattle.at_view.specs.declared.view.View.{View}
use Rattle.at_core.specs.Steps.{MayGive}
use Rattle.at_core.proofs.HandLemmas.{given_at_once}
use Rattle.at_core.proofs.tests.take_and_give.Goals as goal

pub unlock-requires-clause-has : goal.unlock-requires-clause-has
unlock-requires-clause-has c =
    let l = c.args.lock.now in
    let took = c.try_lock-found.ensures.got c.if-found-eq0.true in
    let may = given_at_once opening l c.args.pass.now.seat.me.0 took.0 took.1 c.requires.out took.4 in
    (c.try_lock-found.new.pass.seat.me.0.types.lists, took.1, took.3, subst (λ (v : View). MayGive opening l v v.types.lists took.1) (sym took.2) may)
