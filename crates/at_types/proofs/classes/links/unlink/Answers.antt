use Rattle.std.proofs.Common.{ℕ, List, Contains, ap, sym, subst, arith, length, take}
use Rattle.at_tree.specs.Tree.{children, without_number}
use Rattle.at_types.proofs.LinkLemmas.{length-with_each, with_each_more, present_at, contains_at}
use Rattle.at_types.proofs.classes.links.unlink.Goals as goal

pub remove-requires-clause-base_in : goal.remove-requires-clause-base_in
remove-requires-clause-base_in c =
    omega (arith, c.number.ensures.range, c.requires.numbered, ap length c.loop-base.invariant, length-with_each (λ list. without_number list c.args.c) c.args.tree.now (take c.loop-base.base-index c.args.bases.now))

pub remove-requires-clause-present : goal.remove-requires-clause-present
remove-requires-clause-present c =
    let i = c.loop-base.base-index in
    let b = c.base-item.result in
    let within = c.loop-base-test.true in
    rw (c.number.ensures.same, c.number-in-loop-base.ensures.same)
    (subst (λ (t : List (List ℕ)). Contains (children t b) c.args.c) (sym c.loop-base.invariant)
    (present_at c.args.tree.now c.args.c c.args.bases.now i b within c.base-item.is c.requires.once (c.requires.present b (contains_at c.args.bases.now i b within c.base-item.is))))

pub loop-base-preserved : goal.loop-base-preserved
loop-base-preserved c =
    with_each_more (λ list. without_number list c.args.c) c.args.tree.now c.loop-base.tree c.remove.new.self c.args.bases.now c.loop-base.base-index c.base-item.result
    c.loop-base-test.true c.base-item.is c.loop-base.invariant (rw (c.number.ensures.same, c.number-in-loop-base.ensures.same) at c.remove.ensures.removed)
