use Rattle.at_core.specs.Passes.{view}
use Rattle.at_section.proofs.Room.{none_held, blocked_given}
use Rattle.at_section.proofs.Settling.{backed_after_give, taking_none}
use Rattle.at_section.proofs.Steps.{moves_same, moves_then, moves_given}
use Rattle.at_section.proofs.taking.give_all.Goals as goal

pub loop-init : goal.loop-init
loop-init g c = (c.requires.of, c.requires.ready, c.requires.blocked, (λ ls. moves_same ls c.args.pass.now), (λ backed. backed))

pub loop-preserved : goal.loop-preserved
loop-preserved g c =
    let so = c.loop.invariant in
    let s = c.give_noted.ensures in
    let p = c.loop.pass in
    let q = c.give_noted.new.pass in
    let l = c.in-Some-front_lock.lock in (
      s.same.1,
      s.ready,
      blocked_given (view p) (view q) l s.given so.2,
      (λ ls. moves_then ls c.args.pass.now p q (so.3 ls) (moves_given ls p q l so.2 s.same.0 s.given s.noted)),
      (λ backed. backed_after_give p q l s.given s.noted (so.4 backed)),
    )

pub returns-in-None-front_lock-clause-of : goal.returns-in-None-front_lock-clause-of
returns-in-None-front_lock-clause-of g c = c.loop.invariant.0

pub returns-in-None-front_lock-clause-moves : goal.returns-in-None-front_lock-clause-moves
returns-in-None-front_lock-clause-moves g c ls = c.loop.invariant.3 ls

pub returns-in-None-front_lock-clause-none : goal.returns-in-None-front_lock-clause-none
returns-in-None-front_lock-clause-none g c = none_held c.loop.pass c.loop.invariant.1 c.in-None-front_lock.ensures.none

pub returns-in-None-front_lock-clause-taking : goal.returns-in-None-front_lock-clause-taking
returns-in-None-front_lock-clause-taking g c ls t =
    taking_none c.loop.pass ls (none_held c.loop.pass c.loop.invariant.1 c.in-None-front_lock.ensures.none) (c.loop.invariant.4 t.backed) c.loop.invariant.1
