-- When a merge takes no memory: what it works on stands in places of its own, which have room for a few small numbers.
use Rattle.std.specs.Prelude.{ℕ, ◌+◌, ◌<◌, ◌≤◌, List, length, All}
use Rattle.std.specs.List.{concat}
use Rattle.at_c3.specs.Counts.{tail_numbers}

-- how many numbers a list has before it takes memory, and how many lists a merge has before it takes memory
abbrev pub list_room : ℕ
list_room = 8

abbrev pub lists_room : ℕ
lists_room = 9

-- the numbers below this one are counted without memory
abbrev pub count_room : ℕ
count_room = 32

-- each number in the tails of the lists is small
abbrev pub AreSmall : List (List ℕ) → Type 0
AreSmall lists = All (λ number. number < count_room) (tail_numbers lists)

-- The merge of the lists, put after n numbers, takes no memory.
pub record TakesNoMemory (n : ℕ) (lists : List (List ℕ)) : Type 0 where
  pub few : length lists ≤ lists_room
  pub short : n + length (concat lists) ≤ list_room
  pub small : AreSmall lists
