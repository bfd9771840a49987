use Rattle.std.proofs.Common.{◌≡◌, ◌∙◌, ap, subst, ℕ, List, map, rules}
use Rattle.std.specs.List.Sorted.{IsPermutation}
use Rattle.at_value.specs.declared.value.Value.{Value}
use Rattle.at_text.specs.Order.{Order, keyed}
use Rattle.std.proofs.lemmas.List.Sorted.{IsNonDecreasingBy-from_sort_by_key}
use Rattle.at_text.proofs.Keys.{sorted_same, sorted_up}
use Rattle.at_text.proofs.order.ByBytes.sort.Goals as goal

-- the pairs that were taken in, in the order of their keys
taken : (c : goal.After-sort_unstable_by_key) → IsPermutation (map (keyed c.args.self.now.keys) c.args.own.now) c.sort_unstable_by_key.new.self.items
taken c =
    let keys : c.deref.result.now ≡ c.args.self.now.keys = c.deref.ensures.value ∙ ap (λ (o : Order). o.keys) c.self.view_is in
    let entries : c.take_in.new.entries.items ≡ map (keyed c.args.self.now.keys) c.args.own.now = c.take_in.ensures.entries ∙ ap (λ k. map (keyed k) c.args.own.now) keys in
    subst (λ (l : List (ℕ × ℕ × Value)). IsPermutation l c.sort_unstable_by_key.new.self.items) entries c.sort_unstable_by_key.ensures.permutation

pub returns-clause-same : goal.returns-clause-same
returns-clause-same c = sorted_same c.args.self.now.keys c.args.own.now c.sort_unstable_by_key.new.self.items (taken c)

pub returns-clause-sorted : goal.returns-clause-sorted
returns-clause-sorted c =
    let up = IsNonDecreasingBy-from_sort_by_key (λ (e : ℕ × ℕ × Value). e.0) c.sort_unstable_by_key.new.self.items c.sort_unstable_by_key.ensures.sorted (λ a r f called. search rules) in
    sorted_up c.args.self.now.keys c.args.own.now c.sort_unstable_by_key.new.self.items (taken c) up
