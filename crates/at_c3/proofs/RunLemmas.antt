-- A merge as a run of steps, each of which takes the next head.
use Rattle.std.proofs.Common.{◌≡◌, ◌∙◌, ap, sym, refl, subst, ℕ, List, [], ◌∷◌, ◌++◌, map, Option, Some, None, true, false}
use Rattle.std.specs.List.{list_all}
use Rattle.at_c3.specs.Merge.{is_empty, next_head, without_head, prefixed, merge_of}
use Rattle.at_c3.proofs.StepLemmas.{merge_of_empty, merge_of_next, merge_of_none}

-- the list is what steps to the end take
abbrev pub Runs : List (List ℕ) → List ℕ → Type 0
Runs lists [] = list_all is_empty lists ≡ true
Runs lists (c ∷ rest) = (next_head lists ≡ Some c) × Runs (map (without_head c) lists) rest

-- a list that is there after a prefix
pub prefixed-some : (prefix : List ℕ) (merged : Option (List ℕ)) (whole : List ℕ) → prefixed prefix merged ≡ Some whole → (rest : List ℕ) × (merged ≡ Some rest) × (whole ≡ prefix ++ rest)
prefixed-some prefix None whole h = cc
prefixed-some prefix (Some rest) whole h = (rest, refl, cc)

pub merge_from_run : (merged : List ℕ) (lists : List (List ℕ)) → Runs lists merged → merge_of lists ≡ Some merged
merge_from_run [] lists run = merge_of_empty lists run
merge_from_run (c ∷ rest) lists run = merge_of_next lists c run.0 ∙ ap (prefixed (c ∷ [])) (merge_from_run rest (map (without_head c) lists) run.1)

-- a merge that is there, by its first step
first_step : (lists : List (List ℕ)) (merged : List ℕ) → merge_of lists ≡ Some merged → list_all is_empty lists ≡ false
    → (c : ℕ) × (rest : List ℕ) × (merged ≡ c ∷ rest) × (next_head lists ≡ Some c) × (merge_of (map (without_head c) lists) ≡ Some rest)
first_step lists merged is some =
    elim (next_head lists) as (λ o. next_head lists ≡ o → (c : ℕ) × (rest : List ℕ) × (merged ≡ c ∷ rest) × (next_head lists ≡ Some c) × (merge_of (map (without_head c) lists) ≡ Some rest)) [
      | None ↦ λ none. let e : None ≡ Some merged = sym (merge_of_none lists none some) ∙ is in cc
      | Some c ↦ λ next.
          let e : prefixed (c ∷ []) (merge_of (map (without_head c) lists)) ≡ Some merged = sym (merge_of_next lists c next) ∙ is in
          let found = prefixed-some (c ∷ []) (merge_of (map (without_head c) lists)) merged e in
          (c, found.0, found.2, next, found.1)
    ] refl

pub run_from_merge : (merged : List ℕ) (lists : List (List ℕ)) → merge_of lists ≡ Some merged → Runs lists merged
run_from_merge [] lists is =
    elim (list_all is_empty lists) as (λ b. list_all is_empty lists ≡ b → b ≡ true) [
      | true ↦ λ _. refl
      | false ↦ λ some. let s = first_step lists [] is some in let e : [] ≡ s.0 ∷ s.1 = s.2 in cc
    ] refl
run_from_merge (x ∷ xs) lists is =
    elim (list_all is_empty lists) as (λ b. list_all is_empty lists ≡ b → Runs lists (x ∷ xs)) [
      | true ↦ λ empty. let e : Some [] ≡ Some (x ∷ xs) = sym (merge_of_empty lists empty) ∙ is in cc
      | false ↦ λ some.
          let s = first_step lists (x ∷ xs) is some in
          let e : x ∷ xs ≡ s.0 ∷ s.1 = s.2 in
          let head : s.0 ≡ x = cc in
          let tail : s.1 ≡ xs = cc in
          let rest : merge_of (map (without_head x) lists) ≡ Some xs = subst (λ y. merge_of (map (without_head y) lists) ≡ Some xs) head (s.4 ∙ ap (λ l. Some l) tail) in
          (s.3 ∙ ap (λ y. Some y) head, run_from_merge xs (map (without_head x) lists) rest)
    ] refl
