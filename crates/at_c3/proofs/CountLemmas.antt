-- What counts tell of the tails of lists, and what becomes of them.
use Rattle.std.proofs.Common.{◌≡◌, ◌∙◌, ap, sym, refl, subst, ℕ, ◌<◌, ◌+◌, ◌==◌, length, get_or, set, List, [], ◌∷◌, ◌++◌, drop, slice_get, Some, Bool, true, false, not, cond, ◌||◌, count_by, sum_by, remove, slice_index, arith}
use Rattle.std.specs.Borrow.{Bor}
use Rattle.std.specs.List.{list_any, flat_map}
use Rattle.std.proofs.lemmas.Bool.{ne_eqb}
use Rattle.std.proofs.lemmas.List.{length-map, map-set, get_or-map}
use Rattle.std.proofs.lemmas.List.Folds.{list_any-append}
use Rattle.std.proofs.lemmas.List.Sums.{sum_by-cons, sum_by-append, sum_by-set, sum_by-remove}
use Rattle.at_c3.specs.Counts.{AreCountsOf, tail_numbers}
use Rattle.at_c3.specs.Merge.{stands_in_a_tail}
use Rattle.at_c3.specs.Slices.{contents}

-- a count is not zero exactly if some element passes
list_any-from_count : {A : Type 0} (test : A → Bool) (xs : List A) → not (count_by test xs == 0) ≡ list_any test xs
list_any-from_count test [] = refl
list_any-from_count test (x ∷ xs) =
    let more = sum_by-cons (λ y. cond (test y) 1 0) x xs in
    ap (λ n. not (n == 0)) more
    ∙ elim (test x) as (λ b. not (cond b 1 0 + count_by test xs == 0) ≡ (b || list_any test xs)) [
      | true ↦ ap not (ne_eqb (1 + count_by test xs) 0 (λ e. omega arith))
      | false ↦
          let e : 0 + count_by test xs ≡ count_by test xs = omega arith in
          ap (λ n. not (n == 0)) e ∙ list_any-from_count test xs
    ]

list_any-flat_map : {A B : Type 0} (test : B → Bool) (f : A → List B) (xs : List A) → list_any test (flat_map f xs) ≡ list_any (λ x. list_any test (f x)) xs
list_any-flat_map test f [] = refl
list_any-flat_map test f (x ∷ xs) = list_any-append test (f x) (flat_map f xs) ∙ ap (λ b. list_any test (f x) || b) (list_any-flat_map test f xs)

count_by-flat_map : {A B : Type 0} (test : B → Bool) (f : A → List B) (xs : List A) → count_by test (flat_map f xs) ≡ sum_by (λ x. count_by test (f x)) xs
count_by-flat_map test f [] = refl
count_by-flat_map test f (x ∷ xs) =
    sum_by-append (λ y. cond (test y) 1 0) (f x) (flat_map f xs)
    ∙ ap (λ n. count_by test (f x) + n) (count_by-flat_map test f xs)
    ∙ sym (sum_by-cons (λ y. count_by test (f y)) x xs)

-- a number is counted exactly if it stands in a tail
pub counted_in_a_tail : (counts : List ℕ) (lists : List (List ℕ)) (n : ℕ) → AreCountsOf counts (tail_numbers lists) → not (slice_index counts n == 0) ≡ stands_in_a_tail lists n
counted_in_a_tail counts lists n are =
    ap (λ m. not (m == 0)) (are n) ∙ list_any-from_count (λ x. x == n) (tail_numbers lists) ∙ list_any-flat_map (λ x. x == n) (drop 1) lists

-- the numbers in the tails are those in the tail of one list, and those in the tails of the others
pub counts_apart : (counts : List ℕ) (lists : List (List ℕ)) (i : ℕ) (d : List ℕ) → i < length lists → AreCountsOf counts (tail_numbers lists) → AreCountsOf counts (drop 1 (get_or lists i d) ++ tail_numbers (remove lists i))
counts_apart counts lists i d within are = λ n.
    let test : ℕ → Bool = λ x. x == n in
    let tail_count : List ℕ → ℕ = λ list. count_by test (drop 1 list) in
    let whole = count_by-flat_map test (drop 1) lists in
    let others = count_by-flat_map test (drop 1) (remove lists i) in
    let parts = sum_by-append (λ x. cond (test x) 1 0) (drop 1 (get_or lists i d)) (tail_numbers (remove lists i)) in
    let removed = sum_by-remove tail_count lists i d within in
    are n ∙ omega arith

-- and the other way, with another list in the place of the one
pub counts_joined : (counts : List ℕ) (lists : List (List ℕ)) (i : ℕ) (list d : List ℕ) → i < length lists → AreCountsOf counts (drop 1 list ++ tail_numbers (remove lists i)) → AreCountsOf counts (tail_numbers (set lists i list))
counts_joined counts lists i list d within are = λ n.
    let test : ℕ → Bool = λ x. x == n in
    let tail_count : List ℕ → ℕ = λ l. count_by test (drop 1 l) in
    let whole = count_by-flat_map test (drop 1) (set lists i list) in
    let others = count_by-flat_map test (drop 1) (remove lists i) in
    let parts = sum_by-append (λ x. cond (test x) 1 0) (drop 1 list) (tail_numbers (remove lists i)) in
    let removed = sum_by-remove tail_count lists i d within in
    let replaced = sum_by-set tail_count lists i list d within in
    are n ∙ omega arith

-- the same of the slices that contain the lists
pub counts_apart_at : (counts : List ℕ) (slices : List (Bor (List ℕ))) (i : ℕ) (d : Bor (List ℕ)) → i < length slices → AreCountsOf counts (tail_numbers (contents slices))
    → AreCountsOf counts (drop 1 (get_or slices i d).now ++ tail_numbers (remove (contents slices) i))
counts_apart_at counts slices i d within are =
    let within_lists : i < length (contents slices) = omega (arith, length-map slices (λ (slice : Bor (List ℕ)). slice.now)) in
    let Are : List ℕ → Type 0 = λ list. AreCountsOf counts (drop 1 list ++ tail_numbers (remove (contents slices) i)) in
    subst Are (get_or-map (λ slice. slice.now) slices i d (get_or slices i d).now within) (counts_apart counts (contents slices) i (get_or slices i d).now within_lists are)

pub counts_joined_at : (counts : List ℕ) (slices : List (Bor (List ℕ))) (i : ℕ) (rest : Bor (List ℕ)) → i < length slices → AreCountsOf counts (drop 1 rest.now ++ tail_numbers (remove (contents slices) i))
    → AreCountsOf counts (tail_numbers (contents (set slices i rest)))
counts_joined_at counts slices i rest within are =
    let within_lists : i < length (contents slices) = omega (arith, length-map slices (λ (slice : Bor (List ℕ)). slice.now)) in
    let Are : List (List ℕ) → Type 0 = λ lists. AreCountsOf counts (tail_numbers lists) in
    subst Are (sym (map-set (λ slice. slice.now) slices i rest)) (counts_joined counts (contents slices) i rest.now [] within_lists are)

-- a list with a head
pub list_from_head : (list : List ℕ) (head : ℕ) → slice_get list 0 ≡ Some head → list ≡ head ∷ drop 1 list
list_from_head [] head is = cc
list_from_head (x ∷ xs) head is = let e : x ≡ head = cc in ap (λ y. y ∷ xs) e
