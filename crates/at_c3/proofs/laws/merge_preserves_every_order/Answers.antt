use Rattle.std.proofs.lemmas.List.Elements.{All-from_recursion}
use Rattle.at_c3.specs.Laws.{IsSubsequence}
use Rattle.at_c3.proofs.RunLemmas.{run_from_merge}
use Rattle.at_c3.proofs.OrderLemmas.{run_keeps_orders}
use Rattle.at_c3.proofs.laws.merge_preserves_every_order.Goals as goal

pub returns : goal.returns
returns c = λ lists merged is.
    All-from_recursion (λ list. IsSubsequence list merged) lists (run_keeps_orders merged lists (run_from_merge merged lists is))
