use Rattle.std.proofs.Common.{◌≡◌, ◌∙◌, ◌-◌, ◌∷◌, [], ap, arith, replicate}
use Rattle.at_types.proofs.classes.first_orders.Goals as goal

pub returns : goal.returns
returns c =
    let end : c.loop.counter ≡ 255 = omega (arith, c.loop-test.false, c.loop.auto.counter-end) in
    c.loop.invariant.orders ∙ ap (λ n. (0 ∷ []) ∷ replicate (n - 1) []) end
