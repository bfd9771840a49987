use Rattle.std.proofs.Common.{◌∙◌, ◌++◌, ◌∷◌, [], ℕ, List, Contains, ap, sym, subst, arith, length}
use Rattle.at_tree.specs.Tree.{children}
use Rattle.at_types.proofs.LinkLemmas.{length-linked_take, linked_before, with_each_more, absent_at, contains_at}
use Rattle.at_types.proofs.classes.links.link.Goals as goal

pub add-requires-clause-base_in : goal.add-requires-clause-base_in
add-requires-clause-base_in c = omega (arith, c.number.ensures.range, c.requires.numbered, length-linked_take c.args.tree.now c.loop-i.tree c.args.c c.loop-i.i c.args.bases.now c.loop-i.invariant.linked)

pub add-requires-clause-c_in : goal.add-requires-clause-c_in
add-requires-clause-c_in c = omega (arith, c.number-in-loop-i.ensures.range, c.requires.numbered, length-linked_take c.args.tree.now c.loop-i.tree c.args.c c.loop-i.i c.args.bases.now c.loop-i.invariant.linked)

pub add-requires-clause-absent : goal.add-requires-clause-absent
add-requires-clause-absent c =
    let i = c.loop-i.i in
    let b = c.index-bases-i.result in
    let within = c.loop-i-test.true in
    rw (c.number.ensures.same, c.number-in-loop-i.ensures.same)
    (subst (λ (t : List (List ℕ)). Contains (children t b) c.args.c → ⊥) (sym c.loop-i.invariant.linked)
    (absent_at c.args.tree.now c.args.c c.args.bases.now i b within c.index-bases-i.is c.requires.once (c.requires.absent b (contains_at c.args.bases.now i b within c.index-bases-i.is))))

pub add-requires-clause-not_below : goal.add-requires-clause-not_below
add-requires-clause-not_below c =
    let b = c.index-bases-i.result in
    rw (c.number.ensures.same, c.number-in-loop-i.ensures.same)
    (λ reached. c.requires.not_below b (contains_at c.args.bases.now c.loop-i.i b c.loop-i-test.true c.index-bases-i.is) (c.loop-i.invariant.below b reached))

pub unlink_last-requires-clause-numbered : goal.unlink_last-requires-clause-numbered
unlink_last-requires-clause-numbered c =
    ap length c.in-Err.ensures.err ∙ length-linked_take c.args.tree.now c.loop-i.tree c.args.c c.loop-i.i c.args.bases.now c.loop-i.invariant.linked ∙ c.requires.numbered

pub unlink_last-requires-clause-linked : goal.unlink_last-requires-clause-linked
unlink_last-requires-clause-linked c =
    (c.args.tree.now, linked_before c.args.tree.now c.add.new.self c.args.c c.loop-i.i c.args.bases.now (c.in-Err.ensures.err ∙ c.loop-i.invariant.linked) c.requires.once c.requires.absent)

pub returns-in-Err-clause-err : goal.returns-in-Err-clause-err
returns-in-Err-clause-err c =
    c.unlink_last.ensures c.args.tree.now (linked_before c.args.tree.now c.add.new.self c.args.c c.loop-i.i c.args.bases.now (c.in-Err.ensures.err ∙ c.loop-i.invariant.linked) c.requires.once c.requires.absent)

pub loop-i-preserved : goal.loop-i-preserved
loop-i-preserved c = record {
  linked = with_each_more (λ list. list ++ c.args.c ∷ []) c.args.tree.now c.loop-i.tree c.add.new.self c.args.bases.now c.loop-i.i c.index-bases-i.result
      c.loop-i-test.true c.index-bases-i.is c.loop-i.invariant.linked (rw (c.number.ensures.same, c.number-in-loop-i.ensures.same) at c.in_default.ensures.ok);
  below = λ d reached. c.loop-i.invariant.below d ((rw c.number-in-loop-i.ensures.same at (c.in_default.ensures.below_c d)).0 reached);
}
