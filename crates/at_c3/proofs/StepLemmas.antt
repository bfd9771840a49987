-- What one step does to a merge.
use Rattle.std.proofs.Common.{◌≡◌, ◌∙◌, ap, sym, refl, ℕ, zero, suc, ◌<◌, ◌≤◌, ◌==◌, List, [], ◌∷◌, ◌++◌, map, length, length-append, append_assoc, arith, Option, Some, None, Bool, true, false, cond, find, ◌&&◌}
use Rattle.std.specs.List.{list_all, concat}
use Rattle.std.specs.Option.{option_and_then}
use Rattle.std.proofs.lemmas.Bool.{ne_eqb}
use Rattle.at_c3.specs.Merge.{is_empty, heads, next_head, without_head, prefixed, merge_within, merge_of}

-- no list grows
without_head_no_longer : (c : ℕ) (list : List ℕ) → length (without_head c list) ≤ length list
without_head_no_longer c [] = omega arith
without_head_no_longer c (x ∷ xs) = elim (x == c) as (λ b. length (cond b xs (x ∷ xs)) ≤ length (x ∷ xs)) [ true ↦ omega arith | false ↦ omega arith ]

no_more_numbers : (c : ℕ) (lists : List (List ℕ)) → length (concat (map (without_head c) lists)) ≤ length (concat lists)
no_more_numbers c [] = omega arith
no_more_numbers c (list ∷ lists) =
    omega (arith, without_head_no_longer c list, no_more_numbers c lists, length-append (without_head c list) (concat (map (without_head c) lists)), length-append list (concat lists))

without_same_head : (x : ℕ) (xs : List ℕ) → without_head x (x ∷ xs) ≡ xs
without_same_head x xs = grind arith

-- without a head that was found there are fewer numbers
fewer_numbers : (test : ℕ → Bool) (c : ℕ) (lists : List (List ℕ)) → find test (heads lists) ≡ Some c → length (concat (map (without_head c) lists)) < length (concat lists)
fewer_numbers test c [] found = cc
fewer_numbers test c ([] ∷ lists) found = fewer_numbers test c lists found
fewer_numbers test c ((x ∷ xs) ∷ lists) found =
    let left = length-append (without_head c (x ∷ xs)) (concat (map (without_head c) lists)) in
    let whole = length-append (x ∷ xs) (concat lists) in
    elim (test x) as (λ b. cond b (Some x) (find test (heads lists)) ≡ Some c → length (concat (map (without_head c) ((x ∷ xs) ∷ lists))) < length (concat ((x ∷ xs) ∷ lists))) [
      | true ↦ λ here.
          let e : x ≡ c = cc in
          let shorter : length (without_head c (x ∷ xs)) ≡ length xs = rw (← e) (ap length (without_same_head x xs)) in
          omega (arith, no_more_numbers c lists, left, whole)
      | false ↦ λ later. omega (arith, fewer_numbers test c lists later, without_head_no_longer c (x ∷ xs), left, whole)
    ] found

pub rests_get_shorter : (c : ℕ) (lists rests : List (List ℕ)) → Some c ≡ next_head lists → rests ≡ map (without_head c) lists → length (concat rests) < length (concat lists)
rests_get_shorter c lists rests next left = rw left (fewer_numbers _ c lists (sym next))

-- where a head is next, some number is left
pub head_left : (c : ℕ) (lists : List (List ℕ)) → Some c ≡ next_head lists → 1 ≤ length (concat lists)
head_left c lists next = let fewer = fewer_numbers _ c lists (sym next) in omega arith

-- where a head is found, not all lists are empty
some_left : (test : ℕ → Bool) (c : ℕ) (lists : List (List ℕ)) → find test (heads lists) ≡ Some c → list_all is_empty lists ≡ false
some_left test c [] found = cc
some_left test c ([] ∷ lists) found = some_left test c lists found
some_left test c ((x ∷ xs) ∷ lists) found = ap (λ b. b && list_all is_empty lists) (ne_eqb (suc (length xs)) 0 (λ e. omega arith))

all_empty : (lists : List (List ℕ)) → length (concat lists) ≡ 0 → list_all is_empty lists ≡ true
all_empty [] none = refl
all_empty ([] ∷ lists) none = all_empty lists none
all_empty ((x ∷ xs) ∷ lists) none = absurd (omega (arith, length-append (x ∷ xs) (concat lists)))

empty_within : (steps : ℕ) (lists : List (List ℕ)) → list_all is_empty lists ≡ true → merge_within steps lists ≡ Some []
empty_within zero lists empty = rw empty refl
empty_within (suc steps) lists empty = rw empty refl

-- any number of steps that is enough gives the same
enough_steps : (n m : ℕ) (lists : List (List ℕ)) → length (concat lists) ≤ n → length (concat lists) ≤ m → merge_within n lists ≡ merge_within m lists
enough_steps zero m lists p q =
    let empty = all_empty lists (omega arith) in
    empty_within zero lists empty ∙ sym (empty_within m lists empty)
enough_steps (suc n) zero lists p q =
    let empty = all_empty lists (omega arith) in
    empty_within (suc n) lists empty ∙ sym (empty_within zero lists empty)
enough_steps (suc n) (suc m) lists p q =
    let then : (steps : ℕ) → ℕ → Option (List ℕ) = λ steps c. prefixed (c ∷ []) (merge_within steps (map (without_head c) lists)) in
    ap (cond (list_all is_empty lists) (Some []))
    (elim (next_head lists) as (λ o. next_head lists ≡ o → option_and_then (then n) o ≡ option_and_then (then m) o) [
      | None ↦ λ _. refl
      | Some c ↦ λ found.
          let less = fewer_numbers _ c lists found in
          ap (prefixed (c ∷ [])) (enough_steps n m (map (without_head c) lists) (omega arith) (omega arith))
    ] refl)

-- the merge of empty lists
pub merge_of_empty : (lists : List (List ℕ)) → list_all is_empty lists ≡ true → merge_of lists ≡ Some []
merge_of_empty lists empty = empty_within (length (concat lists)) lists empty

-- the merge of lists that are not all empty, by its first step
pub merge_of_step : (lists : List (List ℕ)) → list_all is_empty lists ≡ false
    → merge_of lists ≡ option_and_then (λ c. prefixed (c ∷ []) (merge_of (map (without_head c) lists))) (next_head lists)
merge_of_step lists some =
    let n = length (concat lists) in
    enough_steps n (suc n) lists (omega arith) (omega arith)
    ∙ ap (λ b. cond b (Some []) (option_and_then (λ c. prefixed (c ∷ []) (merge_within n (map (without_head c) lists))) (next_head lists))) some
    ∙ elim (next_head lists) as (λ o. next_head lists ≡ o → option_and_then (λ c. prefixed (c ∷ []) (merge_within n (map (without_head c) lists))) o ≡ option_and_then (λ c. prefixed (c ∷ []) (merge_of (map (without_head c) lists))) o) [
      | None ↦ λ _. refl
      | Some c ↦ λ found.
          let less = fewer_numbers _ c lists found in
          ap (prefixed (c ∷ [])) (enough_steps n (length (concat (map (without_head c) lists))) (map (without_head c) lists) (omega arith) (omega arith))
    ] refl

-- the merge where a head is next
pub merge_of_next : (lists : List (List ℕ)) (c : ℕ) → next_head lists ≡ Some c → merge_of lists ≡ prefixed (c ∷ []) (merge_of (map (without_head c) lists))
merge_of_next lists c found =
    merge_of_step lists (some_left _ c lists found) ∙ ap (option_and_then (λ c. prefixed (c ∷ []) (merge_of (map (without_head c) lists)))) found

-- there is no merge where lists are left and no head is next
pub merge_of_none : (lists : List (List ℕ)) → next_head lists ≡ None → list_all is_empty lists ≡ false → merge_of lists ≡ None
merge_of_none lists none some =
    merge_of_step lists some ∙ ap (option_and_then (λ c. prefixed (c ∷ []) (merge_of (map (without_head c) lists)))) none

prefixed_twice : (xs ys : List ℕ) (merged : Option (List ℕ)) → prefixed xs (prefixed ys merged) ≡ prefixed (xs ++ ys) merged
prefixed_twice xs ys None = refl
prefixed_twice xs ys (Some zs) = ap (λ l. Some l) (sym (append_assoc xs ys zs))

-- one more number is merged, and the rest is to be merged without it
pub merge_goes_on : (c : ℕ) (lists rests : List (List ℕ)) (merged pushed : List ℕ) (whole : Option (List ℕ)) → Some c ≡ next_head lists
    → rests ≡ map (without_head c) lists → pushed ≡ merged ++ c ∷ []
    → prefixed merged (merge_of lists) ≡ whole → prefixed pushed (merge_of rests) ≡ whole
merge_goes_on c lists rests merged pushed whole next left longer so_far =
    rw (left, longer) (sym (prefixed_twice merged (c ∷ []) (merge_of (map (without_head c) lists))) ∙ ap (prefixed merged) (sym (merge_of_next lists c (sym next))) ∙ so_far)
