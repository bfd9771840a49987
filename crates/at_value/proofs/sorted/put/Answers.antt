use Rattle.std.proofs.Common.{◌∙◌, ap, set, arith}
use Rattle.std.specs.List.{insert}
use Rattle.at_value.specs.Pairs.{place_in}
use Rattle.at_value.proofs.Places.{within, replaced, inserted, none_from_test}
use Rattle.at_value.proofs.Maps.{put_rising}
use Rattle.at_value.proofs.sorted.put.Goals as goal

pub insert-requires : goal.insert-requires
insert-requires c = omega (arith, within c.args.n c.deref.result.now)

pub returns-then-is_at-clause-ok : goal.returns-then-is_at-clause-ok
returns-then-is_at-clause-ok c =
    let there = rw c.deref-2.ensures.value at (c.is_at.ensures.there.0 c.if-is_at.true) in
    let place = rw c.deref.ensures.value at c.place_of-place.ensures.place in
    let here = rw place at c.index_mut.ensures.value in
    ap (λ k. set c.args.items.now.items k (c.index_mut.result.now.0, c.args.v)) place
    ∙ ap (λ p. set c.args.items.now.items (place_in c.args.n c.args.items.now.items) (p.0, c.args.v)) here
    ∙ replaced c.args.n c.args.v c.index_mut.result.now c.args.items.now.items c.requires there

pub returns-in_ok-insert-clause-ok : goal.returns-in_ok-insert-clause-ok
returns-in_ok-insert-clause-ok c =
    let absent = rw c.deref-2.ensures.value at (none_from_test _ c.is_at.result c.is_at.ensures.there.1 c.if-is_at.false) in
    let place = rw c.deref.ensures.value at c.place_of-place.ensures.place in
    c.in_ok-insert.ensures.items ∙ ap (λ k. insert c.args.items.now.items k (c.args.n, c.args.v)) place ∙ inserted c.args.n c.args.v c.args.items.now.items absent

pub returns-then-is_at-clause-rising : goal.returns-then-is_at-clause-rising
returns-then-is_at-clause-rising c = rw (returns-then-is_at-clause-ok c) (put_rising c.args.n c.args.v c.args.items.now.items c.requires)

pub returns-in_ok-insert-clause-rising : goal.returns-in_ok-insert-clause-rising
returns-in_ok-insert-clause-rising c = rw (returns-in_ok-insert-clause-ok c) (put_rising c.args.n c.args.v c.args.items.now.items c.requires)
