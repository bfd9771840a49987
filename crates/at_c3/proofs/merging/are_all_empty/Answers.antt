use Rattle.std.proofs.Common.{◌∙◌, sym, List, ℕ, rules, tests}
use Rattle.std.specs.Borrow.{Bor}
use Rattle.std.proofs.lemmas.List.Folds.{list_all-map}
use Rattle.std.proofs.lemmas.Iterator.{YieldsList-from_slice}
use Rattle.std.proofs.lemmas.Iterator.Search.{all_from_yields_List}
use Rattle.at_c3.specs.Merge.{is_empty}
use Rattle.at_c3.proofs.merging.are_all_empty.Goals as goal

pub returns : goal.returns
returns c =
    let lists = c.args.lists.now in
    all_from_yields_List (λ (slice : Bor (List ℕ)). is_empty slice.now) _ _ _ c.all.ensures.ran (YieldsList-from_slice lists cc) (λ x b q k. search (rules, tests))
    ∙ sym (list_all-map is_empty (λ (slice : Bor (List ℕ)). slice.now) lists)
