-- What a text tells of a line: all but the numbers that a miss carries.
use Rattle.at_value.specs.Types.{Path, Miss}
use Rattle.at_value.specs.declared.reply.Path.TheVariants as paths
use Rattle.at_value.specs.declared.reply.Miss.TheVariants as misses
use Rattle.at_line.specs.Types.{Line, What}
use Rattle.at_line.specs.declared.line.What.TheVariants as whats

-- a miss without the words that the call loaded
abbrev pub bare_miss : Miss → Miss
bare_miss (misses.Untagged c) = misses.Untagged 0
bare_miss (misses.Unlike e) = misses.Unlike 0
bare_miss (misses.Writing e n) = misses.Writing 0 0
bare_miss (misses.Changed e n m) = misses.Changed 0 0 0
bare_miss (misses.Odd o n) = misses.Odd 0 0
bare_miss (misses.Dict o n) = misses.Dict 0 0
bare_miss (misses.Keyless c x) = misses.Keyless 0 0
bare_miss (misses.Moved w n m) = misses.Moved 0 0 0

abbrev pub bare_path : Path → Path
bare_path paths.Fast = paths.Fast
bare_path (paths.Slow m) = paths.Slow (bare_miss m)
bare_path paths.Locked = paths.Locked

abbrev pub bare_what : What → What
bare_what (whats.Did place way operation r) = whats.Did place (bare_path way) operation r
bare_what (whats.Local l) = whats.Local l

-- a line with 0 for each number that its miss carries
abbrev pub bare_line : Line → Line
bare_line line = record line { what = bare_what line.what }
