use Rattle.std.proofs.Common.{ap, suc, [], length, arith}
use Rattle.std.proofs.lemmas.List.Elements.{All-nil}
use Rattle.at_core.specs.declared.lock.Lock.TheVariants as locks
use Rattle.at_core.specs.Passes.{view}
use Rattle.at_core.specs.Plays.{Found}
use Rattle.at_core.proofs.HandOf.{empty_hand}
use Rattle.at_lock.proofs.Families.{taken_shut}
use Rattle.at_lock.proofs.tests.found_by_a_second.Goals as goal

pub try_take-requires-clause-room : goal.try_take-requires-clause-room
try_take-requires-clause-room g c =
    let empty = ap length (empty_hand c.split.new.pass c.split.ensures.out) in
    omega arith

pub give-requires-clause-has : goal.give-requires-clause-has
give-requires-clause-has g c = (c.try_take.ensures.got c.in-Got.is).1

pub give-requires-clause-shut : goal.give-requires-clause-shut
give-requires-clause-shut g c =
    let v = view c.split.new.pass in
    taken_shut locks.Types v (view c.try_take.new.pass) c.split.ensures.out (record { holders = []; found = All-nil (λ holder. Found v (suc holder)); last = (c.try_take.ensures.got c.in-Got.is).0 })
