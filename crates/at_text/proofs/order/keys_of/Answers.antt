use Rattle.std.proofs.Common.{◌<◌, sym, subst, List, ℕ}
use Rattle.std.specs.List.{range_with_len}
use Rattle.std.specs.List.Sorted.{IsPermutation, IsSortedBy}
use Rattle.std.specs.Ordering.{is_lt}
use Rattle.std.proofs.lemmas.Result.{IfOk-weaker}
use Rattle.at_value.specs.Widths as widths
use Rattle.at_text.specs.Order.{name_cmp}
use Rattle.std.proofs.lemmas.List.Sorted.{All-permutation}
use Rattle.at_text.proofs.Keys.{keys_sort, range_below, range_length}
use Rattle.at_text.proofs.order.keys_of.Goals as goal

-- all names, in their order
all : (c : goal.After-deref) → IsPermutation (range_with_len 0 widths.names) c.deref.result.now
all c = subst (λ (l : List ℕ). IsPermutation (range_with_len 0 widths.names) l) (sym c.deref.ensures.value) c.in_ok-sorted.ensures.same

pub keys_in-requires-clause-length : goal.keys_in-requires-clause-length
keys_in-requires-clause-length c = range_length (all c)

pub keys_in-requires-clause-range : goal.keys_in-requires-clause-range
keys_in-requires-clause-range c =
    All-permutation (λ k. k < widths.names) (range_with_len 0 widths.names) c.deref.result.now (all c) (range_below widths.names)

pub returns-clause-length : goal.returns-clause-length
returns-clause-length c = IfOk-weaker c.keys_in.result _ _ (λ keys given. given.0) c.keys_in.ensures

pub returns-clause-order : goal.returns-clause-order
returns-clause-order c =
    let names = c.args.names.now.names in
    let sorted = c.deref.result.now in
    let same = subst (λ (l : List ℕ). IsPermutation (range_with_len 0 widths.names) l) (sym c.deref.ensures.value) c.in_ok-sorted.ensures.same in
    let up = subst (λ (l : List ℕ). IsSortedBy (λ a b. is_lt (name_cmp names a b)) l) (sym c.deref.ensures.value) c.in_ok-sorted.ensures.sorted in
    IfOk-weaker c.keys_in.result _ _ (λ keys given. keys_sort widths.names names sorted keys.items same up given.1) c.keys_in.ensures
