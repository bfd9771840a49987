use Rattle.std.proofs.Common.{remove, arith, ◌<◌, length}
use Rattle.at_c3.specs.Counts.{tail_numbers}
use Rattle.at_c3.specs.Slices.{contents}
use Rattle.at_c3.proofs.SliceLemmas.{contents_more}
use Rattle.at_c3.proofs.CountLemmas.{counts_apart_at, counts_joined_at}
use Rattle.at_c3.proofs.merging.remove_head.Goals as goal

pub after_head-requires : goal.after_head-requires
after_head-requires c =
    let lists = c.loop-list.lists in
    let i = c.loop-list.list-index in
    let within : i < length lists = omega arith in
    (tail_numbers (remove (contents lists) i), counts_apart_at c.loop-list.in_tails.counts.items lists i _ within c.loop-list.invariant.counts)

pub loop-list-preserved : goal.loop-list-preserved
loop-list-preserved c =
    let lists = c.loop-list.lists in
    let i = c.loop-list.list-index in
    let within : i < length lists = omega arith in
    let others = tail_numbers (remove (contents lists) i) in
    record {
      rests = contents_more c.args.number c.args.lists.now lists i c.after_head.result _ c.loop-list-test.true c.loop-list.auto.lists c.loop-list.invariant.rests c.after_head.ensures.rest;
      counts = counts_joined_at c.after_head.new.in_tails.counts.items lists i c.after_head.result within (c.after_head.ensures.counts others (counts_apart_at c.loop-list.in_tails.counts.items lists i _ within c.loop-list.invariant.counts));
    }
