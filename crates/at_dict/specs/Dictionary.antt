-- What a dictionary is to its callers.
use Rattle.std.specs.Prelude.{ℕ, ◌+◌, ◌-◌, List, is_some, if◌then◌else◌}
use Rattle.at_value.specs.declared.value.Value as value
use Rattle.at_value.specs.Pairs.{value_at}

-- Its pairs by rising name number, and for how many further names there is memory.
pub record Dictionary : Type 0 where
  pub map : List (ℕ × value.Value)
  pub spare : ℕ

-- how many places are spare with the name: a name that isn't there takes one
abbrev pub spare_with : ℕ → Dictionary → ℕ
spare_with n body = if is_some (value_at n body.map) then body.spare else body.spare - 1

-- how many places are spare without the name: a name that is there leaves one
abbrev pub spare_without : ℕ → Dictionary → ℕ
spare_without n body = if is_some (value_at n body.map) then body.spare + 1 else body.spare
