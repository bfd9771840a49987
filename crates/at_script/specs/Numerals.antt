-- private: about the reader's own types; no public clause cites it.
use Rattle.std.specs.Prelude.{ℤ}
use Rattle.std.specs.Str.Parse.{signed_digits_value}
use Rattle.at_script.specs.declared.number.Numeral.{Numeral}

-- the number that is written
abbrev pub number_in : Numeral → ℤ
number_in n = signed_digits_value 10 n.word.now
