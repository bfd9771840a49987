use Rattle.std.proofs.Common.{◌≡◌, ◌≤◌, ◌∙◌, ◌<◌, ◌+◌, ◌++◌, ◌∷◌, [], ap, sym, arith}
use Rattle.std.specs.Prelude.{Some, slice_get}
use Rattle.at_value.specs.Widths as widths
use Rattle.at_text.specs.Order.{keyed}
use Rattle.at_text.proofs.Keys.{place_upto_pair, map_taken, range_taken}
use Rattle.at_text.proofs.order.take_in.Goals as goal

pub push_reserved-requires : goal.push_reserved-requires
push_reserved-requires c =
    let there : slice_get c.args.own.now c.loop-i.i ≡ Some c.unwrap-pair.result = sym c.at.ensures ∙ c.unwrap-pair.ensures in
    let low : c.loop-i.i ≤ c.unwrap-pair.result.0 = place_upto_pair c.args.own.now c.loop-i.i c.unwrap-pair.result c.len-i-end.ensures.rising there in
    omega (arith, low, c.key_of-key.ensures.range, c.loop-i.invariant.count, c.loop-i.invariant.capacity)

pub loop-i-preserved : goal.loop-i-preserved
loop-i-preserved c =
    let there : slice_get c.args.own.now c.loop-i.i ≡ Some c.unwrap-pair.result = sym c.at.ensures ∙ c.unwrap-pair.ensures in
    record {
      entries =
          c.push_reserved.ensures.items ∙ ap (λ k. c.loop-i.entries.items ++ (k, c.unwrap-pair.result.0, c.unwrap-pair.result.1) ∷ []) c.key_of-key.ensures.key
          ∙ ap (λ l. l ++ keyed c.args.keys.now c.unwrap-pair.result ∷ []) c.loop-i.invariant.entries ∙ map_taken (keyed c.args.keys.now) c.args.own.now c.loop-i.i c.unwrap-pair.result there;
      count = c.push_reserved.ensures.len ∙ ap (λ n. n + 1) c.loop-i.invariant.count;
      capacity = c.push_reserved.ensures.capacity ∙ c.loop-i.invariant.capacity;
      range = range_taken (λ pair. pair.0 < widths.names) c.args.own.now c.loop-i.i c.unwrap-pair.result there c.key_of-key.ensures.range c.loop-i.invariant.range;
    }
