use Rattle.std.proofs.Common.{◌≡◌, ◌+◌, ◌-◌, suc, length, [], ◌∷◌, ◌∙◌, ap, sym, arith, length-append}
use Rattle.at_value.specs.Widths.{base_bits}
use Rattle.at_value.proofs.OperationWords.{ok_of, base_read}
use Rattle.at_value.proofs.packing.read_row.Goals as goal

pub loop-preserved : goal.loop-preserved
loop-preserved c =
    let left = c.args.count - c.loop.counter in
    let one_less = c.args.count - (c.loop.counter + 1) in
    let n : left ≡ suc one_less = omega arith in
    let pushed = ok_of c.push.result c.push.ensures.ok c.push.ensures.full (λ full. omega (arith, full.0, c.loop.invariant.few, n)) in
    let grown : length c.push.new.self ≡ length c.loop.bases + 1 = ap length pushed.1 ∙ length-append c.loop.bases (c.in_ok-class_at.field-0 ∷ []) in
    record {
      few = omega (arith, grown, c.loop.invariant.few, n);
      all = base_read base_bits left one_less c.loop.left c.split-base.result.0 c.split-base.result.1 c.in_ok-class_at.field-0 c.loop.bases c.push.new.self _ n
          c.split-base.ensures.low c.split-base.ensures.above (sym c.class_at.ensures ∙ c.in_ok-class_at.was) pushed.1 c.loop.invariant.all;
    }
