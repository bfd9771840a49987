-- How many of each kind the shared table has. A larger table is a change of these numbers and of those of names, classes
-- and objects. They are this project's own.
use Rattle.std.specs.Prelude.{ℕ}
pub use Rattle.at_value.specs.Widths.{passes}

-- keys of a class, and inline values of an object
abbrev pub keys : ℕ
keys = 8

abbrev pub inline_values : ℕ
inline_values = 8

-- entries of the cache
abbrev pub entries : ℕ
entries = 1024

-- words of an intended operation, and fields of a cache entry
abbrev pub intent_words : ℕ
intent_words = 4

abbrev pub entry_fields : ℕ
entry_fields = 3
