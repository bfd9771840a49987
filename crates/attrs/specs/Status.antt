-- Exit statuses.
use Rattle.std.specs.Prelude.{ℕ}
use Rattle.attrs.specs.declared.status.Status as status
use Rattle.attrs.specs.declared.status.Status.TheVariants as statuses

-- the exit status of the process
abbrev pub code_of : status.Status → ℕ
code_of statuses.Good = 0
code_of (statuses.Refused line cause) = 1
code_of statuses.TooLong = 1
code_of statuses.Usage = 2
code_of statuses.NoMemory = 3
code_of statuses.ReadFault = 4
code_of statuses.WriteFault = 5
