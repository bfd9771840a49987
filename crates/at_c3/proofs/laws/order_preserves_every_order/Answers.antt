use Rattle.std.proofs.Common.{ℕ, List, [], ◌∷◌, ◌++◌, All, subst, sym}
use Rattle.std.proofs.lemmas.List.Elements.{All-from_recursion}
use Rattle.at_c3.specs.Merge.{merge_of}
use Rattle.at_c3.specs.Laws.{IsSubsequence}
use Rattle.at_c3.proofs.RunLemmas.{prefixed-some, run_from_merge}
use Rattle.at_c3.proofs.OrderLemmas.{run_keeps_orders, subsequences-after}
use Rattle.at_c3.proofs.laws.order_preserves_every_order.Goals as goal

pub returns : goal.returns
returns c = λ class bases orders order is.
    let lists = orders ++ bases ∷ [] in
    let found = prefixed-some (class ∷ []) (merge_of lists) order is in
    let parts = subsequences-after class found.0 orders bases (run_keeps_orders found.0 lists (run_from_merge found.0 lists found.1)) in
    let Keeps : List ℕ → Type 0 = λ whole. IsSubsequence bases whole × All (λ order_of_base. IsSubsequence order_of_base whole) orders in
    subst Keeps (sym found.2) (parts.1, All-from_recursion (λ order_of_base. IsSubsequence order_of_base (class ∷ found.0)) orders parts.0)
