-- The pool of tags: the numbers that stand for what a class finds. They are this project's own.
use Rattle.std.specs.Prelude.{ℕ, zero, suc, ◌≡◌, ◌+◌, ◌-◌, ◌^◌, ◌<◌, ◌≤◌, ◌==◌, min, List, [], ◌∷◌, ◌++◌, length, drop, remove, Some, None, slice_index_or, slice_set, count_by}
use Rattle.at_types.specs.declared.tags.LimboRow.{LimboRow}
use Rattle.at_types.specs.declared.tags.TagCounts.{TagCounts}
use Rattle.at_types.specs.declared.tags.KeptBy as kept_by
use Rattle.at_types.specs.declared.tags.KeptBy.TheVariants as keepers

-- The tags from 1 to the size: the free ones, in the order in which they are given; the rows of limbo, in the order in
-- which they came; and how many were given and freed so far.
pub record TagState : Type 0 where
  pub size : ℕ
  pub free : List ℕ
  pub limbo : List LimboRow
  pub given : ℕ
  pub freed : ℕ

-- Which tags are free, in limbo and out

-- how often the tag stands in the list
abbrev pub times : ℕ → List ℕ → ℕ
times tag tags = count_by (λ t. t == tag) tags

abbrev pub times_in_limbo : ℕ → List LimboRow → ℕ
times_in_limbo tag rows = count_by (λ row. row.tag == tag) rows

-- the tags from 1 to n, rising
abbrev pub tags_to : ℕ → List ℕ
tags_to zero = []
tags_to (suc n) = tags_to n ++ suc n ∷ []

-- Each tag of the pool is free, in limbo or neither, and no more than once; no other number is free or in limbo.
abbrev pub AreSingle : TagState → Type 0
AreSingle s = (tag : ℕ) → times tag s.free + times_in_limbo tag s.limbo ≤ times tag (tags_to s.size)

-- the tag is given to a class
pub record IsOut (s : TagState) (tag : ℕ) : Type 0 where
  pub positive : 0 < tag
  pub within : tag ≤ s.size
  pub not_free : times tag s.free ≡ 0
  pub not_in_limbo : times_in_limbo tag s.limbo ≡ 0

-- the tag waits in limbo, in one row
pub record IsInLimbo (s : TagState) (tag : ℕ) : Type 0 where
  pub positive : 0 < tag
  pub within : tag ≤ s.size
  pub not_free : times tag s.free ≡ 0
  pub in_one_row : times_in_limbo tag s.limbo ≡ 1

-- how many tags are out
abbrev pub out_of : TagState → ℕ
out_of s = s.size - (length s.free + length s.limbo)

-- The counts tell of each other, until a count stands still.
pub record HasTrueCounts (s : TagState) : Type 0 where
  pub fits : length s.free + length s.limbo ≤ s.size
  pub balance : s.given < 2 ^ 64 - 1 → s.given ≡ s.freed + length s.limbo + out_of s

-- what is true of every pool
pub record IsPool (s : TagState) : Type 0 where
  pub small : s.size < 2 ^ 16
  pub single : AreSingle s
  pub true_counts : HasTrueCounts s

-- What the calls make of a pool

-- one more; the count stands still at 2^64 - 1
abbrev pub counted : ℕ → ℕ
counted n = min (n + 1) (2 ^ 64 - 1)

-- the pool of this size in which each tag is free and none was given
abbrev pub full_pool : ℕ → TagState
full_pool size = record { size = size; free = tags_to size; limbo = []; given = 0; freed = 0 }

abbrev pub counts_of : TagState → TagCounts
counts_of s = record { given = s.given; freed = s.freed; free = length s.free; limbo = length s.limbo }

-- the first free tag is given
abbrev pub next_given : TagState → TagState
next_given s = record s { free = drop 1 s.free; given = counted s.given }

-- a row that was just put into limbo
abbrev pub new_row : ℕ → LimboRow
new_row tag = record { tag = tag; goal = None; kept_by = keepers.New }

abbrev pub in_limbo : TagState → ℕ → TagState
in_limbo s tag = record s { limbo = s.limbo ++ new_row tag ∷ [] }

-- the row at an index below their number
abbrev pub row_at : List LimboRow → ℕ → LimboRow
row_at rows i = slice_index_or rows i (new_row 0)

abbrev pub with_row : TagState → ℕ → LimboRow → TagState
with_row s i row = record s { limbo = slice_set s.limbo i row }

abbrev pub with_goal : TagState → ℕ → ℕ → TagState
with_goal s i goal = with_row s i (record (row_at s.limbo i) { goal = Some goal })

abbrev pub with_kept : TagState → ℕ → kept_by.KeptBy → TagState
with_kept s i kept = with_row s i (record (row_at s.limbo i) { kept_by = kept })

-- the tag of a row is free again, the last of the free ones
abbrev pub with_freed : TagState → ℕ → TagState
with_freed s i = record s { free = s.free ++ (row_at s.limbo i).tag ∷ []; limbo = remove s.limbo i; freed = counted s.freed }
