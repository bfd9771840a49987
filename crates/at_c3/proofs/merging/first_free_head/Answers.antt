use Rattle.std.proofs.Common.{◌≡◌, ◌∙◌, arith}
use Rattle.std.proofs.lemmas.Grind.{common_steps}
use Rattle.at_c3.specs.Merge.{stands_in_a_tail}
use Rattle.at_c3.specs.Slices.{contents}
use Rattle.at_c3.proofs.CountLemmas.{counted_in_a_tail}
use Rattle.at_c3.proofs.merging.first_free_head.Goals as goal
use Rattle.at_c3.proofs.merging.first_free_head.Goals.{in_default-via-in-None-1, in_default-via-in-Some+else-not-has}

pub returns-in-loop-list : goal.returns-in-loop-list
returns-in-loop-list c =
    let stands : c.has.result ≡ stands_in_a_tail (contents c.args.lists.now) c.in-Some.head.now = c.has.ensures ∙ counted_in_a_tail c.args.in_tails.now.counts.items (contents c.args.lists.now) c.in-Some.head.now c.requires in
    grind (arith, common_steps)

pub loop-list-preserved : goal.loop-list-preserved
loop-list-preserved c =
    elim c.in_default.branch [
      | in_default-via-in-None-1 w ↦ grind (arith, common_steps)
      | in_default-via-in-Some+else-not-has w ↦
          let stands : w.has.result ≡ stands_in_a_tail (contents c.args.lists.now) w.in-Some.head.now = w.has.ensures ∙ counted_in_a_tail c.args.in_tails.now.counts.items (contents c.args.lists.now) w.in-Some.head.now c.requires in
          grind (arith, common_steps)
    ]
