-- When a script isn't read.
use Rattle.std.specs.Prelude.{ℕ, ◌≡◌, Option, Some}
use Rattle.at_script.specs.declared.fault.Cause.{Cause}
use Rattle.at_script.specs.declared.fault.ReadFault.{ReadFault}
use Rattle.at_script.specs.declared.fault.ReadFault.TheVariants.{Refused, NoMemory}

-- a refusal says the first offence; out of memory may come at any bytes
abbrev pub IsFaultAt : Option (ℕ × Cause) → ReadFault → Type 0
IsFaultAt offence (Refused line cause) = offence ≡ Some (line, cause)
IsFaultAt offence NoMemory = Unit {0}
