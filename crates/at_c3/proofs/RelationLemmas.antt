-- The relation of the C3 paper, and the steps of a merge.
use Rattle.std.proofs.Common.{◌≡◌, ◌∙◌, ap, sym, refl, subst, ℕ, length, List, [], ◌∷◌, ◌++◌, map, drop, Some, Bool, true, false, not, cond, find, All, IfSome, slice_get, suc, arith}
use Rattle.std.specs.List.{list_all}
use Rattle.std.proofs.lemmas.Bool.{both_ways, not-true, not-false, not_from_true, not_from_false, false_from_ne_true, and_parts, and_from, cond-true, ne_eqb, false≢true}
use Rattle.std.proofs.lemmas.List.Elements.{All-nil, All-cons, All-head, All-tail, All-weaker}
use Rattle.at_c3.specs.Merge.{is_empty, heads, next_head, stands_in_a_tail, without_head, StandsInATail, IsNextHead, IsMerge}
use Rattle.at_c3.proofs.NumberLemmas.{Any-from_has, has-from_Any}
use Rattle.at_c3.proofs.RunLemmas.{Runs}

-- the lists before that of a head that is found have no head that passes
abbrev Fails : (ℕ → Bool) → List ℕ → Type 0
Fails test list = IfSome (slice_get list 0) (λ head. test head ≡ false)

-- where a head is found, and what stands before it
pub record IsFound (test : ℕ → Bool) (lists : List (List ℕ)) (c : ℕ) : Type 0 where
  pub before : List (List ℕ)
  pub tail : List ℕ
  pub after : List (List ℕ)
  pub whole : lists ≡ before ++ (c ∷ tail) ∷ after
  pub fail : All (Fails test) before
  pub passes : test c ≡ true

found-more : (test : ℕ → Bool) (lists : List (List ℕ)) (c : ℕ) (list : List ℕ) → Fails test list → IsFound test lists c → IsFound test (list ∷ lists) c
found-more test lists c list fails found = record {
  before = list ∷ found.before;
  tail = found.tail;
  after = found.after;
  whole = ap (λ l. list ∷ l) found.whole;
  fail = All-cons (Fails test) list found.before fails found.fail;
  passes = found.passes;
}

pub found-from_find : (test : ℕ → Bool) (lists : List (List ℕ)) (c : ℕ) → find test (heads lists) ≡ Some c → IsFound test lists c
found-from_find test [] c is = cc
found-from_find test ([] ∷ lists) c is = found-more test lists c [] tt (found-from_find test lists c is)
found-from_find test ((x ∷ xs) ∷ lists) c is =
    elim (test x) as (λ b. test x ≡ b → cond b (Some x) (find test (heads lists)) ≡ Some c → IsFound test ((x ∷ xs) ∷ lists) c) [
      | true ↦ λ passes here.
          let e : x ≡ c = cc in
          record {
            before = [];
            tail = xs;
            after = lists;
            whole = ap (λ y. (y ∷ xs) ∷ lists) e;
            fail = All-nil (Fails test);
            passes = subst (λ y. test y ≡ true) e passes;
          }
      | false ↦ λ fails later. found-more test lists c (x ∷ xs) fails (found-from_find test lists c later)
    ] refl is

find-before : (test : ℕ → Bool) (c : ℕ) (tail : List ℕ) (before after : List (List ℕ)) → test c ≡ true → All (Fails test) before → find test (heads (before ++ (c ∷ tail) ∷ after)) ≡ Some c
find-before test c tail [] after passes fail = cond-true (test c) (Some c) (find test (heads after)) passes
find-before test c tail ([] ∷ before) after passes fail = find-before test c tail before after passes (All-tail (Fails test) [] before fail)
find-before test c tail ((x ∷ xs) ∷ before) after passes fail =
    ap (λ b. cond b (Some x) (find test (heads (before ++ (c ∷ tail) ∷ after)))) (All-head (Fails test) (x ∷ xs) before fail)
    ∙ find-before test c tail before after passes (All-tail (Fails test) (x ∷ xs) before fail)

stands_of : (lists : List (List ℕ)) (list : List ℕ) → Fails (λ head. not (stands_in_a_tail lists head)) list → IfSome (slice_get list 0) (StandsInATail lists)
stands_of lists [] fails = tt
stands_of lists (x ∷ xs) fails = Any-from_has (drop 1) x lists (not-false (stands_in_a_tail lists x) fails)

is_next-from_head : (lists : List (List ℕ)) (c : ℕ) → next_head lists ≡ Some c → IsNextHead lists c
is_next-from_head lists c is =
    let found = found-from_find (λ head. not (stands_in_a_tail lists head)) lists c is in (
      λ some. both_ways (stands_in_a_tail lists c) (not-true (stands_in_a_tail lists c) found.passes) (has-from_Any (drop 1) c lists some),
      (found.before, found.tail, found.after, found.whole, All-weaker (Fails (λ head. not (stands_in_a_tail lists head))) (λ list. IfSome (slice_get list 0) (StandsInATail lists)) (stands_of lists) found.before found.fail),
    )

fails_of : (lists : List (List ℕ)) (list : List ℕ) → IfSome (slice_get list 0) (StandsInATail lists) → Fails (λ head. not (stands_in_a_tail lists head)) list
fails_of lists [] stands = tt
fails_of lists (x ∷ xs) stands = not_from_true (stands_in_a_tail lists x) (has-from_Any (drop 1) x lists stands)

head_from_is_next : (lists : List (List ℕ)) (c : ℕ) → IsNextHead lists c → next_head lists ≡ Some c
head_from_is_next lists c next =
    let test : ℕ → Bool = λ head. not (stands_in_a_tail lists head) in
    let at = next.1 in
    let free : stands_in_a_tail lists c ≡ false = false_from_ne_true (stands_in_a_tail lists c) (λ is. next.0 (Any-from_has (drop 1) c lists is)) in
    let fail = All-weaker (λ list. IfSome (slice_get list 0) (StandsInATail lists)) (Fails test) (fails_of lists) at.0 at.4 in
    ap (λ l. find test (heads l)) at.3 ∙ find-before test c at.1 at.0 at.2 (not_from_false (stands_in_a_tail lists c) free) fail

all_nil-from_empty : (lists : List (List ℕ)) → list_all is_empty lists ≡ true → All (λ list. list ≡ []) lists
all_nil-from_empty [] empty = All-nil (λ list. list ≡ [])
all_nil-from_empty ([] ∷ lists) empty = All-cons (λ list. list ≡ []) [] lists refl (all_nil-from_empty lists empty)
all_nil-from_empty ((x ∷ xs) ∷ lists) empty =
    absurd (false≢true (sym (ne_eqb (suc (length xs)) 0 (λ e. omega arith)) ∙ (and_parts (is_empty (x ∷ xs)) (list_all is_empty lists) empty).0))

empty_from_all_nil : (lists : List (List ℕ)) → All (λ list. list ≡ []) lists → list_all is_empty lists ≡ true
empty_from_all_nil [] all = refl
empty_from_all_nil (list ∷ lists) all =
    and_from (is_empty list) (list_all is_empty lists) (ap is_empty (All-head (λ l. l ≡ []) list lists all)) (empty_from_all_nil lists (All-tail (λ l. l ≡ []) list lists all))

pub is_merge-from_run : (merged : List ℕ) (lists : List (List ℕ)) → Runs lists merged → IsMerge lists merged
is_merge-from_run [] lists run = all_nil-from_empty lists run
is_merge-from_run (c ∷ rest) lists run = (is_next-from_head lists c run.0, is_merge-from_run rest (map (without_head c) lists) run.1)

pub run_from_is_merge : (merged : List ℕ) (lists : List (List ℕ)) → IsMerge lists merged → Runs lists merged
run_from_is_merge [] lists is = empty_from_all_nil lists is
run_from_is_merge (c ∷ rest) lists is = (head_from_is_next lists c is.0, run_from_is_merge rest (map (without_head c) lists) is.1)
