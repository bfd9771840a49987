-- The numbers of a merge, and their order.
use Rattle.std.proofs.Common.{◌≡◌, ◌∙◌, ap, sym, refl, ℕ, ◌==◌, ◌||◌, ◌⊎◌, inl, inr, suc, length, List, [], ◌∷◌, ◌++◌, map, drop, Some, true, false, not, cond, nat_eq, arith}
use Rattle.std.specs.List.{list_any, list_all, AllByRecursion, IsDistinct}
use Rattle.std.proofs.lemmas.Bool.{not-true, eq-eqb, eqb-true, or_left, or_right, and_parts, false≢true, ne_eqb}
use Rattle.std.proofs.lemmas.List.Folds.{list_any-append}
use Rattle.std.proofs.lemmas.Map.Keys.{IsDistinct-cons}
use Rattle.at_c3.specs.Merge.{is_empty, next_head, stands_in_a_tail, without_head}
use Rattle.at_c3.specs.Laws.{IsSubsequence}
use Rattle.at_c3.proofs.NumberLemmas.{has, list_any-map, list_any_agree, has-without_head, own_head_gone, all_differ}
use Rattle.at_c3.proofs.RunLemmas.{Runs}
use Rattle.at_c3.proofs.RelationLemmas.{found-from_find}

-- the next head stands in some list, and in no tail
head_is_there : (lists : List (List ℕ)) (c : ℕ) → next_head lists ≡ Some c → list_any (has c) lists ≡ true
head_is_there lists c next =
    let found = found-from_find (λ head. not (stands_in_a_tail lists head)) lists c next in
    ap (list_any (has c)) found.whole
    ∙ list_any-append (has c) found.before ((c ∷ found.tail) ∷ found.after)
    ∙ or_right (list_any (has c) found.before) (list_any (has c) ((c ∷ found.tail) ∷ found.after))
    (or_left (has c (c ∷ found.tail)) (list_any (has c) found.after) (or_left (c == c) (has c found.tail) (eq-eqb c c refl)))

head_is_free : (lists : List (List ℕ)) (c : ℕ) → next_head lists ≡ Some c → list_any (λ list. has c (drop 1 list)) lists ≡ false
head_is_free lists c next = not-true (stands_in_a_tail lists c) (found-from_find (λ head. not (stands_in_a_tail lists head)) lists c next).passes

has-none : (n : ℕ) (lists : List (List ℕ)) → list_all is_empty lists ≡ true → list_any (has n) lists ≡ false
has-none n [] empty = refl
has-none n ([] ∷ lists) empty = has-none n lists empty
has-none n ((x ∷ xs) ∷ lists) empty =
    absurd (false≢true (sym (ne_eqb (suc (length xs)) 0 (λ e. omega arith)) ∙ (and_parts (is_empty (x ∷ xs)) (list_all is_empty lists) empty).0))

-- a run has the numbers that stand in some list
pub has-run : (n : ℕ) (merged : List ℕ) (lists : List (List ℕ)) → Runs lists merged → has n merged ≡ list_any (has n) lists
has-run n [] lists run = sym (has-none n lists run)
has-run n (c ∷ rest) lists run =
    elim (c == n) as (λ b. (c == n) ≡ b → (b || has n rest) ≡ list_any (has n) lists) [
      | true ↦ λ is. sym (ap (λ m. list_any (has m) lists) (sym (eqb-true c n is)) ∙ head_is_there lists c run.0)
      | false ↦ λ other.
          has-run n rest (map (without_head c) lists) run.1
          ∙ list_any-map (has n) (without_head c) lists
          ∙ list_any_agree (λ list. has n (without_head c list)) (has n) (λ list. has-without_head n c list other) lists
    ] refl

-- a run takes each number once
pub run_is_distinct : (merged : List ℕ) (lists : List (List ℕ)) → Runs lists merged → IsDistinct nat_eq merged
unfolding IsDistinct
run_is_distinct [] lists run = tt
run_is_distinct (c ∷ rest) lists run =
    let left = map (without_head c) lists in
    let gone = has-run c rest left run.1 ∙ own_head_gone c lists (head_is_free lists c run.0) in
    IsDistinct-cons nat_eq c rest (all_differ c rest gone) (run_is_distinct rest left run.1)

subsequence-step : (c : ℕ) (list rest : List ℕ) → IsSubsequence (without_head c list) rest → IsSubsequence list (c ∷ rest)
subsequence-step c [] rest is = tt
subsequence-step c (x ∷ xs) rest is =
    elim (x == c) as (λ b. (x == c) ≡ b → IsSubsequence (cond b xs (x ∷ xs)) rest → ((x ≡ c) × IsSubsequence xs rest) ⊎ IsSubsequence (x ∷ xs) rest) [
      | true ↦ λ same rest_is. inl (eqb-true x c same, rest_is)
      | false ↦ λ _ rest_is. inr rest_is
    ] refl is

subsequences-step : (c : ℕ) (rest : List ℕ) (lists : List (List ℕ)) → AllByRecursion (λ list. IsSubsequence list rest) (map (without_head c) lists) → AllByRecursion (λ list. IsSubsequence list (c ∷ rest)) lists
subsequences-step c rest [] all = tt
subsequences-step c rest (list ∷ lists) all = (subsequence-step c list rest all.0, subsequences-step c rest lists all.1)

subsequences-end : (lists : List (List ℕ)) → list_all is_empty lists ≡ true → AllByRecursion (λ list. IsSubsequence list []) lists
subsequences-end [] empty = tt
subsequences-end ([] ∷ lists) empty = (tt, subsequences-end lists empty)
subsequences-end ((x ∷ xs) ∷ lists) empty =
    absurd (false≢true (sym (ne_eqb (suc (length xs)) 0 (λ e. omega arith)) ∙ (and_parts (is_empty (x ∷ xs)) (list_all is_empty lists) empty).0))

-- a run keeps the order of every list
pub run_keeps_orders : (merged : List ℕ) (lists : List (List ℕ)) → Runs lists merged → AllByRecursion (λ list. IsSubsequence list merged) lists
run_keeps_orders [] lists run = subsequences-end lists run
run_keeps_orders (c ∷ rest) lists run = subsequences-step c rest lists (run_keeps_orders rest (map (without_head c) lists) run.1)

-- a part of a list is a part of the list with one more before it
subsequence-after : (c : ℕ) (part rest : List ℕ) → IsSubsequence part rest → IsSubsequence part (c ∷ rest)
subsequence-after c [] rest is = tt
subsequence-after c (x ∷ xs) rest is = inr is

-- the lists before the last and the last one are parts of the list with one more before it
pub subsequences-after : (c : ℕ) (rest : List ℕ) (lists : List (List ℕ)) (last : List ℕ) → AllByRecursion (λ list. IsSubsequence list rest) (lists ++ last ∷ [])
    → AllByRecursion (λ list. IsSubsequence list (c ∷ rest)) lists × IsSubsequence last (c ∷ rest)
subsequences-after c rest [] last all = (tt, subsequence-after c last rest all.0)
subsequences-after c rest (list ∷ lists) last all =
    let others = subsequences-after c rest lists last all.1 in
    ((subsequence-after c list rest all.0, others.0), others.1)
