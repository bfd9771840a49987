-- How often numbers stand in lists.
use Rattle.std.specs.Prelude.{ℕ, ◌≡◌, ◌==◌, List, drop, slice_index, count_by}
use Rattle.std.specs.List.{flat_map}

-- The counts tell of each number how often it stands in the list. They may end where no further number stands.
abbrev pub AreCountsOf : List ℕ → List ℕ → Type 0
AreCountsOf counts numbers = (n : ℕ) → slice_index counts n ≡ count_by (λ x. x == n) numbers

-- the numbers in the tails of the lists
abbrev pub tail_numbers : List (List ℕ) → List ℕ
tail_numbers lists = flat_map (drop 1) lists
