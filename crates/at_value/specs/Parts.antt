-- What a property has: functions that get, set and delete, each where it is given.
use Rattle.std.specs.Prelude.{ℕ, zero, suc, ◌<◌, Option, Some, None}
use Rattle.at_value.specs.Widths.{functions}

pub record PropertyParts : Type 0 where
  pub get : Option ℕ
  pub set : Option ℕ
  pub del : Option ℕ

-- the part that a number holds: none for 0, and else the function whose number is one less
abbrev pub part : ℕ → Option ℕ
part zero = None
part (suc f) = Some f

-- the number that holds a part
abbrev pub held : Option ℕ → ℕ
held None = 0
held (Some f) = suc f

-- where there is a function, its number is in range
abbrev pub IsPart : Option ℕ → Type 0
IsPart None = Unit {0}
IsPart (Some f) = f < functions
