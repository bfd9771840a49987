use Rattle.std.proofs.Common.{◌<◌, ◌-◌, arith, length}
use Rattle.at_types.proofs.LinkLemmas.{length-linked, length-linked_take, one_back, last_present, last_unlinked, contains_at}
use Rattle.at_types.proofs.classes.links.unlink_last.Goals as goal

pub remove-requires-clause-base_in : goal.remove-requires-clause-base_in
remove-requires-clause-base_in c =
    let was = c.requires.linked.0 in
    let is = c.requires.linked.1 in
    omega (
      arith,
      c.number.ensures.range,
      c.requires.numbered,
      length-linked was c.args.tree.now c.args.c c.args.bases.now is,
      length-linked_take was c.loop-left.tree c.args.c c.loop-left.left c.args.bases.now (c.loop-left.invariant.linked was is),
    )

pub remove-requires-clause-present : goal.remove-requires-clause-present
remove-requires-clause-present c =
    let was = c.requires.linked.0 in
    let is = c.requires.linked.1 in
    rw (c.number.ensures.same, c.number-in-loop-left.ensures.same)
    (last_present was c.loop-left.tree c.args.c c.args.bases.now (c.loop-left.left - 1) c.index-bases-left.result (omega arith) c.index-bases-left.is
    (omega (arith, c.number.ensures.same, c.number.ensures.range, c.requires.numbered, length-linked was c.args.tree.now c.args.c c.args.bases.now is))
    (one_back was c.loop-left.tree c.args.c c.loop-left.left c.args.bases.now c.loop-left-test.true (c.loop-left.invariant.linked was is)))

pub loop-left-preserved : goal.loop-left-preserved
loop-left-preserved c = record {
  linked = λ was is.
      let b = c.index-bases-left.result in
      let within : c.loop-left.left - 1 < length c.args.bases.now = omega arith in
      last_unlinked was c.loop-left.tree c.remove.new.self c.args.c c.args.bases.now (c.loop-left.left - 1) b within c.index-bases-left.is
      (omega (arith, c.number.ensures.same, c.number.ensures.range, c.requires.numbered, length-linked was c.args.tree.now c.args.c c.args.bases.now is)) is.once
      (is.absent b (contains_at c.args.bases.now (c.loop-left.left - 1) b within c.index-bases-left.is))
      (one_back was c.loop-left.tree c.args.c c.loop-left.left c.args.bases.now c.loop-left-test.true (c.loop-left.invariant.linked was is))
      (rw (c.number.ensures.same, c.number-in-loop-left.ensures.same) at c.remove.ensures.removed);
  within = omega arith;
}
