use Rattle.std.proofs.Common.{sym, ◌∙◌}
use Rattle.at_section.proofs.Settling.{released_given, released_named, released_out}
use Rattle.at_section.proofs.Steps.{moves_released, moves_same}
use Rattle.at_section.proofs.taking.release.Goals.{else-has_lock-via-then-has_lock+else-not-is_named, else-has_lock-via-else-has_lock}
use Rattle.at_section.proofs.taking.release.Goals as goal

pub returns-then-not-is_named-clause-moves : goal.returns-then-not-is_named-clause-moves
returns-then-not-is_named-clause-moves c ls =
    let g = c.give_noted.ensures in
    moves_released ls c.args.pass.now c.give_noted.new.pass c.args.lock.now (sym c.is_named.ensures ∙ c.if-not-is_named.true) g.same.0 g.given g.noted

pub returns-then-not-is_named-clause-giving : goal.returns-then-not-is_named-clause-giving
returns-then-not-is_named-clause-giving c ls giving =
    let g = c.give_noted.ensures in
    released_given c.args.pass.now c.give_noted.new.pass c.args.lock.now ls (sym c.is_named.ensures ∙ c.if-not-is_named.true) g.given g.noted g.ready giving

pub returns-else-has_lock-clause-moves : goal.returns-else-has_lock-clause-moves
returns-else-has_lock-clause-moves c ls = moves_same ls c.args.pass.now

pub returns-else-has_lock-clause-giving : goal.returns-else-has_lock-clause-giving
returns-else-has_lock-clause-giving c ls giving = elim c.else-has_lock.branch [
  | else-has_lock-via-then-has_lock+else-not-is_named w ↦ released_named c.args.pass.now c.args.lock.now ls (sym w.is_named.ensures ∙ w.if-not-is_named.false) giving
  | else-has_lock-via-else-has_lock w ↦ released_out c.args.pass.now c.args.lock.now ls (sym c.has_lock.ensures ∙ w.if-has_lock.false) giving
]
