use Rattle.std.proofs.Common.{◌∙◌, ℕ, List, [], ◌∷◌, ◌++◌, subst, sym, nat_eq}
use Rattle.std.specs.List.{IsDistinct}
use Rattle.std.proofs.lemmas.Bool.{false_from_ne_true}
use Rattle.std.specs.List.{list_any}
use Rattle.std.proofs.lemmas.Map.Keys.{IsDistinct-cons}
use Rattle.at_c3.specs.Merge.{merge_of}
use Rattle.at_c3.proofs.NumberLemmas.{has, Any-from_has, all_differ}
use Rattle.at_c3.proofs.RunLemmas.{prefixed-some, run_from_merge}
use Rattle.at_c3.proofs.OrderLemmas.{has-run, run_is_distinct}
use Rattle.at_c3.proofs.laws.order_begins_with_its_class.Goals as goal

pub returns : goal.returns
returns c = λ class bases orders order is.
    let lists = orders ++ bases ∷ [] in
    let found = prefixed-some (class ∷ []) (merge_of lists) order is in
    let run = run_from_merge found.0 lists found.1 in (
      found.0,
      found.2,
      found.1,
      λ not_there.
          let none = false_from_ne_true (list_any (has class) lists) (λ some. not_there (Any-from_has (λ list. list) class lists some)) in
          let P : List ℕ → Type 0 = λ o. IsDistinct nat_eq o in
          subst P (sym found.2) (IsDistinct-cons nat_eq class found.0 (all_differ class found.0 (has-run class found.0 lists run ∙ none)) (run_is_distinct found.0 lists run)),
    )
