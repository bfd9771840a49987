use Rattle.std.proofs.Common.{◌≡◌, take}
use Rattle.std.specs.List.{list_all}
use Rattle.at_script.specs.Lines.{is_allowed}
use Rattle.at_script.proofs.lines.are_allowed.Given as goal

-- whether the bytes so far are allowed
abbrev pub invariant-loop-byte : goal.invariant-loop-byte
invariant-loop-byte l = l.allowed ≡ list_all is_allowed (take l.byte-index l.bytes)
