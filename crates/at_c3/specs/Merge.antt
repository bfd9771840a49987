-- The C3 merge of lists of numbers, and the order of a class by it: Barrett and others, "A Monotonic Superclass
-- Linearization for Dylan" (1996), whose rule is Python's method resolution order.
use Rattle.std.specs.Prelude.{ℕ, ◌≡◌, ◌==◌, zero, suc, Bool, not, List, [], ◌∷◌, ◌++◌, length, map, drop, Option, Some, None, if◌then◌else◌, All, Any, Contains, IfSome, slice_get, find, option_and_then}
use Rattle.std.specs.List.{list_any, list_all, filter_map, concat}
use Rattle.std.specs.Option.{option_map}

abbrev pub is_empty : List ℕ → Bool
is_empty list = length list == 0

-- the heads of the lists that have one
abbrev pub heads : List (List ℕ) → List ℕ
heads lists = filter_map (λ list. slice_get list 0) lists

-- whether the number stands in the tail of some list, that is, after its head
abbrev pub stands_in_a_tail : List (List ℕ) → ℕ → Bool
stands_in_a_tail lists number = list_any (λ list. list_any (λ x. x == number) (drop 1 list)) lists

-- the first head that stands in no tail
abbrev pub next_head : List (List ℕ) → Option ℕ
next_head lists = find (λ head. not (stands_in_a_tail lists head)) (heads lists)

-- the list without its head, where that is the number
abbrev pub without_head : ℕ → List ℕ → List ℕ
without_head number [] = []
without_head number (x ∷ xs) = if x == number then xs else x ∷ xs

-- the prefix, and then the list that may be there
abbrev pub prefixed : List ℕ → Option (List ℕ) → Option (List ℕ)
prefixed prefix rest = option_map (λ list. prefix ++ list) rest

-- The merge, where these steps are enough: the empty list where all lists are empty; otherwise the next head, and
-- then the merge of the lists with that head removed from all heads. There is none where no head is next.
abbrev pub merge_within : ℕ → List (List ℕ) → Option (List ℕ)
merge_within zero lists = if list_all is_empty lists then Some [] else None
merge_within (suc steps) lists =
    if list_all is_empty lists
    then Some []
    else option_and_then
    (λ head. prefixed (head ∷ []) (merge_within steps (map (without_head head) lists)))
    (next_head lists)

-- The merge of the lists. Each step takes a number away, so as many steps as there are numbers are enough.
abbrev pub merge_of : List (List ℕ) → Option (List ℕ)
merge_of lists = merge_within (length (concat lists)) lists

-- The order of class c whose bases have these orders: c, and then the merge of the orders and of the list of bases.
abbrev pub order_of_lists : ℕ → List ℕ → List (List ℕ) → Option (List ℕ)
order_of_lists c bases orders = prefixed (c ∷ []) (merge_of (orders ++ bases ∷ []))

-- the number stands in the tail of some list
abbrev pub StandsInATail : List (List ℕ) → ℕ → Type 0
StandsInATail lists number = Any (λ list. Contains (drop 1 list) number) lists

-- The number is the head of one of the lists and stands in no tail, and each head before it stands in some tail.
abbrev pub IsNextHead : List (List ℕ) → ℕ → Type 0
IsNextHead lists number =
    ¬ (StandsInATail lists number)
    × ((before : List (List ℕ)) × (tail : List ℕ) × (after : List (List ℕ))
    × (lists ≡ before ++ (number ∷ tail) ∷ after)
    × All (λ list. IfSome (slice_get list 0) (StandsInATail lists)) before)

-- The merge as a relation, without steps: it is empty where all lists are, and otherwise begins with the next head and
-- goes on with a merge of the lists with that head removed from all heads.
abbrev pub IsMerge : List (List ℕ) → List ℕ → Type 0
IsMerge lists [] = All (λ list. list ≡ []) lists
IsMerge lists (head ∷ rest) = IsNextHead lists head × IsMerge (map (without_head head) lists) rest
