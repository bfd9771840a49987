use Rattle.std.proofs.Common.{arith, sym, ap, ◌∙◌, ◌≡◌, ◌<◌, ◌+◌, ℕ, List, length, replicate, subst, length-set}
use Rattle.std.proofs.lemmas.List.{get_or_default, length-replicate}
use Rattle.at_value.specs.Widths as widths
use Rattle.at_text.specs.Order.{AreGiven}
use Rattle.at_text.proofs.Keys.{given_none, given_more}
use Rattle.at_text.proofs.order.keys_in.Goals as goal

pub loop-name-init : goal.loop-name-init
loop-name-init c =
    let n = widths.names in
    let items : c.in_ok-keys.keys.items ≡ replicate n 0 = c.in_ok-keys.ensures.items_if_clones_equal (λ y same. same) in
    record {
      next = omega arith;
      room = c.in_ok-keys.ensures.len;
      long = ap length items ∙ length-replicate {A = ℕ} n 0;
      given = let P : List ℕ → Type 0 = AreGiven 0 c.args.sorted.now in subst P (sym items) (given_none c.args.sorted.now n);
    }

pub loop-name-preserved : goal.loop-name-preserved
loop-name-preserved c =
    let sorted = c.args.sorted.now in
    let i = c.loop-name.name-index in
    let is : c.from.result ≡ c.name-item.result = cc in
    let at = is ∙ c.name-item.is ∙ get_or_default sorted i c.name-item.result 0 c.loop-name-test.true in
    let within : c.from.result < length c.loop-name.keys.items = omega (arith, at, c.requires.range i 0 c.loop-name-test.true, c.loop-name.invariant.long) in
    let next : c.loop-name.key + 1 ≡ i + 1 = ap (λ n. n + 1) c.loop-name.invariant.next in
    record {
      next = omega arith;
      room = c.loop-name.invariant.room;
      long = length-set c.loop-name.keys.items c.from.result (c.loop-name.key + 1) ∙ c.loop-name.invariant.long;
      given = given_more sorted c.loop-name.keys.items i c.from.result (c.loop-name.key + 1) within at next c.loop-name.invariant.given;
    }

pub returns : goal.returns
returns c =
    let end : c.loop-name.name-index ≡ widths.names = omega (arith, c.requires.length) in
    let P : ℕ → Type 0 = λ n. AreGiven n c.args.sorted.now c.loop-name.keys.items in
    (c.loop-name.invariant.long, subst P end c.loop-name.invariant.given)
