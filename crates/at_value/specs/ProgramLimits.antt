-- The limits of the program.
use Rattle.at_value.specs.declared.limits.Limits.{Limits}

-- A place is at most 2 ^ 32 - 1, and the sequence of a head, which has 40 bits and rises by two, ends two below 2 ^ 40.
abbrev pub program_limits : Limits
program_limits = record { place_max = 4294967295; head_max = 1099511627774; tags = 1023 }
