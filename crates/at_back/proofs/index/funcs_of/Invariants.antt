use Rattle.std.proofs.Common.{◌≡◌, take}
use Rattle.at_back.proofs.index.funcs_of.Given as goal

-- the first of them
abbrev pub invariant-loop-number : goal.invariant-loop-number
invariant-loop-number l = l.texts ≡ take l.number l.script.funcs
