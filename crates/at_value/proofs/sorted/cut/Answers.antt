use Rattle.std.proofs.Common.{◌∙◌, ap, sym, Some}
use Rattle.std.specs.List.{remove}
use Rattle.at_value.proofs.Places.{value, removed, none_from_test}
use Rattle.at_value.proofs.Maps.{without-absent, cut_rising}
use Rattle.at_value.proofs.sorted.cut.Goals as goal

pub returns-then-is_at-clause-value : goal.returns-then-is_at-clause-value
returns-then-is_at-clause-value c =
    let there = rw c.deref-2.ensures.value at (c.is_at.ensures.there.0 c.if-is_at.true) in
    let place = rw c.deref.ensures.value at c.place_of-place.ensures.place in
    let taken = rw place at c.remove.ensures.value in
    ap (λ p. Some p.1) taken ∙ sym (value c.args.n c.remove.result c.args.items.now.items c.requires there)

pub returns-then-is_at-clause-rest : goal.returns-then-is_at-clause-rest
returns-then-is_at-clause-rest c =
    let there = rw c.deref-2.ensures.value at (c.is_at.ensures.there.0 c.if-is_at.true) in
    let place = rw c.deref.ensures.value at c.place_of-place.ensures.place in
    c.remove.ensures.items ∙ ap (remove c.args.items.now.items) place ∙ removed c.args.n c.args.items.now.items c.requires there

pub returns-else-is_at-clause-rest : goal.returns-else-is_at-clause-rest
returns-else-is_at-clause-rest c =
    let absent = rw c.deref-2.ensures.value at (none_from_test _ c.is_at.result c.is_at.ensures.there.1 c.if-is_at.false) in
    sym (without-absent c.args.n c.args.items.now.items absent)

pub returns-then-is_at-clause-rising : goal.returns-then-is_at-clause-rising
returns-then-is_at-clause-rising c = rw (returns-then-is_at-clause-rest c) (cut_rising c.args.n c.args.items.now.items c.requires)
