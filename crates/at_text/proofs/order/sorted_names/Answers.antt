use Rattle.std.proofs.Common.{rules}
use Rattle.std.specs.Ordering.{is_lt}
use Rattle.std.proofs.lemmas.List.Sorted.{ranks_by}
use Rattle.std.proofs.lemmas.Fn.{always_returns_same}
use Rattle.at_text.specs.Order.{name_cmp}
use Rattle.at_text.proofs.ByBytes.{name_cmp_total}
use Rattle.at_text.proofs.order.sorted_names.Goals as goal

pub returns-clause-sorted : goal.returns-clause-sorted
returns-clause-sorted c =
    c.in_ok-sort_by.ensures.sorted (λ a b. is_lt (name_cmp c.args.names.now.names a b)) (ranks_by (name_cmp_total c.args.names.now.names) (λ n. n)) (always_returns_same _ _ _ (λ a r f called. search rules))
