use Rattle.std.proofs.Common.{ℕ, List}
use Rattle.at_world.specs.Plain.{lists_of}
use Rattle.at_model.specs.Step.{rebased}
use Rattle.at_world.specs.Rebasing.{AreRenewed}
use Rattle.at_world.proofs.plain.rebasing.renew.Given as goal

-- the round has come to class i
abbrev pub invariant-loop-i : goal.invariant-loop-i
invariant-loop-i l =
    (bases : List ℕ) → AreRenewed (rebased l.classes l.c bases) l.classes (lists_of l.was) l.c l.long 0 (lists_of l.initial.orders)
    → AreRenewed (rebased l.classes l.c bases) l.classes (lists_of l.was) l.c l.long l.i (lists_of l.orders)
