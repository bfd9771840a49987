-- The world in which the runs of a script begin, and the limits under which they stand.
use Rattle.at_value.specs.ProgramLimits.{program_limits}
use Rattle.at_value.specs.declared.limits.Limits.{Limits}
use Rattle.at_model.specs.World.{World, opening}
use Rattle.at_script.specs.Parts.{ScriptParts}

-- Chosen here, by the version of a script's language. There is one version yet, which opens with the class `object` alone.
abbrev pub opening_of : ScriptParts → World
opening_of s = opening

abbrev pub limits_of : ScriptParts → Limits
limits_of s = program_limits
