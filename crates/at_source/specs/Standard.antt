-- What is seen of std's readers and writers.
use Rattle.std.specs.Prelude.{ℕ, List, Option, Bool}

-- A reader: how often it failed, and the bytes still to come, where they are known.
pub record ReaderState : Type 0 where
  pub faults : ℕ
  pub unread : Option (List ℕ)

-- A writer: how often it failed, whether a flush succeeded after the last byte that it took, and the bytes that it
-- holds, where they are known.
pub record WriterState : Type 0 where
  pub faults : ℕ
  pub is_flushed : Bool
  pub contents : Option (List ℕ)
