use Rattle.std.proofs.Common.{◌≤◌, ◌<◌, ◌-◌, ◌*◌, ◌^◌, ◌∙◌, suc, length, arith}
use Rattle.at_value.specs.Widths.{classes, base_bits, bases_a_word}
use Rattle.at_value.proofs.OperationWords.{base_put, classes_grow, room_for_one}
use Rattle.at_value.proofs.packing.word_of_row.Goals as goal

pub joined-word-requires-clause-above : goal.joined-word-requires-clause-above
joined-word-requires-clause-above c =
    let few : suc (length c.args.row.now - c.loop-i.i) ≤ bases_a_word = omega (arith, c.requires) in
    room_for_one base_bits (length c.args.row.now - c.loop-i.i) bases_a_word c.loop-i.word few (omega arith) c.loop-i.invariant.small

pub loop-i-preserved : goal.loop-i-preserved
loop-i-preserved c =
    let here = c.from.ensures ∙ c.number.ensures.same ∙ c.index-row-i.is in
    let class : c.from.result < classes = omega (arith, c.from.ensures, c.number.ensures.range) in
    let base : c.from.result < 2 ^ base_bits = omega arith in
    let put = base_put base_bits c.args.row.now c.loop-i.i (c.loop-i.i - 1) c.loop-i.word c.from.result c.index-row-i.result (omega arith) c.loop-i.auto.i
    c.loop-i.invariant.small c.loop-i.invariant.word here base
    in
    let small : c.joined-word.result < 2 ^ (base_bits * (length c.args.row.now - (c.loop-i.i - 1))) = rw c.joined-word.ensures put.0 in
    record {
      small = small;
      word = c.joined-word.ensures ∙ put.1;
      classes = classes_grow _ _ _ _ _ (omega arith) here class c.loop-i.auto.i c.loop-i.invariant.classes;
    }
