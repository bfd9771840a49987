-- The world in which a table begins: chosen here, by its limits, and which limits there may be.
use Rattle.std.specs.Prelude.{◌≡◌, ◌<◌, ◌≤◌, ◌%◌}
use Rattle.at_value.specs.ProgramLimits.{program_limits}
use Rattle.at_value.specs.declared.limits.Limits.{Limits}
use Rattle.at_model.specs.World.{World, opening}

abbrev pub opening_of : Limits → World
opening_of limits = opening

-- Limits are at most those of the program; the sequence of a head ends at an even number, and there is a tag.
pub record AreGood (limits : Limits) : Type 0 where
  pub place : limits.place_max ≤ program_limits.place_max
  pub even : limits.head_max % 2 ≡ 0
  pub head_some : 0 < limits.head_max
  pub head : limits.head_max ≤ program_limits.head_max
  pub tag_some : 0 < limits.tags
  pub tags : limits.tags ≤ program_limits.tags
