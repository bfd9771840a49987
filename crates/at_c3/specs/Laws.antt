-- The laws of the merge and of the order.
use Rattle.std.specs.Prelude.{ℕ, ◌≡◌, ◌↔◌, ◌⊎◌, ⊤, List, [], ◌∷◌, ◌++◌, Some, All, Any, Contains, nat_eq}
use Rattle.std.specs.List.{IsDistinct}
use Rattle.at_c3.specs.Merge.{merge_of, order_of_lists, IsMerge}

-- The whole list has the items of the part in their order, and maybe others between them.
abbrev pub IsSubsequence : List ℕ → List ℕ → Type 0
IsSubsequence [] whole = ⊤
IsSubsequence (x ∷ xs) [] = ⊥
IsSubsequence (x ∷ xs) (y ∷ ys) = ((x ≡ y) × IsSubsequence xs ys) ⊎ IsSubsequence (x ∷ xs) ys

-- the merge that steps compute is the one that the relation allows
abbrev pub MergeIsTheRelation : Type 0
MergeIsTheRelation = (lists : List (List ℕ)) (merged : List ℕ) → (merge_of lists ≡ Some merged) ↔ IsMerge lists merged

-- no number stands twice in a merge, and those in it are those in some list
abbrev pub MergeHasEachNumberOnce : Type 0
MergeHasEachNumberOnce =
    (lists : List (List ℕ)) (merged : List ℕ) → merge_of lists ≡ Some merged
    → IsDistinct nat_eq merged × ((n : ℕ) → Contains merged n ↔ Any (λ list. Contains list n) lists)

-- the numbers of each list stand in the merge in that list's order
abbrev pub MergePreservesEveryOrder : Type 0
MergePreservesEveryOrder =
    (lists : List (List ℕ)) (merged : List ℕ) → merge_of lists ≡ Some merged
    → All (λ list. IsSubsequence list merged) lists

-- An order is its class and then the merge, which is without the class where no list has it.
abbrev pub OrderBeginsWithItsClass : Type 0
OrderBeginsWithItsClass =
    (c : ℕ) (bases : List ℕ) (orders : List (List ℕ)) (order : List ℕ) → order_of_lists c bases orders ≡ Some order
    → (rest : List ℕ) × (order ≡ c ∷ rest) × (merge_of (orders ++ bases ∷ []) ≡ Some rest)
    × (¬ (Any (λ list. Contains list c) (orders ++ bases ∷ [])) → IsDistinct nat_eq order)

-- The bases stand in an order as in the list of bases (local precedence order), and the classes of each base's order as
-- in that order (monotonicity).
abbrev pub OrderPreservesEveryOrder : Type 0
OrderPreservesEveryOrder =
    (c : ℕ) (bases : List ℕ) (orders : List (List ℕ)) (order : List ℕ) → order_of_lists c bases orders ≡ Some order
    → IsSubsequence bases order × All (λ order_of_base. IsSubsequence order_of_base order) orders
