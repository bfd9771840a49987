-- What is seen of the sources and sinks in memory.
use Rattle.std.specs.Prelude.{ℕ, ◌==◌, List, Bool, true, if◌then◌else◌}
use Rattle.std.specs.List.{list_any}
use Rattle.at_source.specs.Faults.{one_more}

-- The calls of a device: the numbers of those that fail, how many were made, and how many failed.
pub record CallState : Type 0 where
  pub fails : List ℕ
  pub made : ℕ
  pub faults : ℕ

-- whether the next call fails: calls are counted from 0
abbrev pub fails_next : CallState → Bool
fails_next calls = list_any (λ number. number == calls.made) calls.fails

-- after one more call, which failed or not
abbrev pub after_call : CallState → Bool → CallState
after_call calls failed = record calls { made = one_more calls.made; faults = if failed then one_more calls.faults else calls.faults }

-- A source in memory: the bytes still to come, and the most that a read gives.
pub record SourceState : Type 0 where
  pub left : List ℕ
  pub most : ℕ
  pub calls : CallState

-- A sink in memory: what was written, for how many more bytes there is room, the most that a write takes, and whether a
-- flush succeeded after the last byte that was taken.
pub record SinkState : Type 0 where
  pub written : List ℕ
  pub room : ℕ
  pub most : ℕ
  pub is_flushed : Bool
  pub calls : CallState

-- a sink after one more flush, which failed or not
abbrev pub after_flush : SinkState → Bool → SinkState
after_flush sink failed =
    record sink { is_flushed = if failed then sink.is_flushed else true; calls = after_call sink.calls failed }
