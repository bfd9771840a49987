use Rattle.std.proofs.Common.{◌≡◌, ◌≤◌, ◌∙◌, ap, sym, subst, arith, inl, inr, length, get_or, []}
use Rattle.std.proofs.lemmas.Bool.{cases_lt}
use Rattle.at_world.specs.Plain.{lists_of}
use Rattle.at_world.proofs.Definitions.{list_at}
use Rattle.at_world.proofs.plain.orders.longest_len.Goals as goal
use Rattle.at_world.proofs.plain.orders.longest_len.Goals.{then-len-longest, else-len-longest}

pub loop-order-preserved : goal.loop-order-preserved
loop-order-preserved c = λ i below.
    let lists = lists_of c.args.orders.now in
    let at = c.loop-order.order-index in
    let here = list_at c.args.orders.now at c.order-item.result c.order-item.result c.loop-order-test.true c.order-item.is in
    let len : length (get_or lists at []) ≡ c.len-len.result = ap length (sym here) ∙ sym c.len-len.ensures.value in
    let grows : c.loop-order.longest ≤ c.if-len-longest.longest = elim c.if-len-longest.branch [
      | then-len-longest w ↦ omega (arith, w.longest-is, w.if-len-longest.true)
      | else-len-longest w ↦ omega (arith, w.longest-is)
    ] in
    let covers : c.len-len.result ≤ c.if-len-longest.longest = elim c.if-len-longest.branch [
      | then-len-longest w ↦ omega (arith, w.longest-is)
      | else-len-longest w ↦ omega (arith, w.longest-is, w.if-len-longest.false)
    ] in
    elim (cases_lt i at) [
      | inl before ↦ let was = c.loop-order.invariant i before in omega (arith, was, grows)
      | inr from ↦
          let same : i ≡ at = omega arith in
          subst (λ x. length (get_or lists x []) ≤ c.if-len-longest.longest) (sym same) (omega (arith, len, covers))
    ]
