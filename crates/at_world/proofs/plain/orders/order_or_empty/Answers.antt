use Rattle.std.proofs.Common.{◌∙◌, ap, sym, Err}
use Rattle.at_world.specs.Plain.{lists_of, order_or_none}
use Rattle.at_world.proofs.Rebasing.{order_by-missing, order_by-none, order_by-some}
use Rattle.at_world.proofs.plain.orders.order_or_empty.Goals as goal

pub returns-then-has_unordered : goal.returns-then-has_unordered
returns-then-has_unordered c =
    ap order_or_none c.new.ensures.items ∙ sym (order_by-missing (lists_of c.args.orders.now) c.args.c c.args.bases.now (sym c.has_unordered.ensures ∙ c.if-has_unordered.true))

pub returns-in-Ok : goal.returns-in-Ok
returns-in-Ok c =
    order_by-some (lists_of c.args.orders.now) c.args.c c.args.bases.now c.in-Ok.order.items (sym c.has_unordered.ensures ∙ c.if-has_unordered.false) c.in-Ok.ensures.ordered

pub returns-in-Err-NoHead : goal.returns-in-Err-NoHead
returns-in-Err-NoHead c =
    ap order_or_none c.new-in-Err-NoHead.ensures.items
    ∙ sym (order_by-none (lists_of c.args.orders.now) c.args.c c.args.bases.now (sym c.has_unordered.ensures ∙ c.if-has_unordered.false)
    (c.in-Err-NoHead.ensures.none (ap (λ fault. Err fault) c.in-Err-NoHead.field-0-is)))
