use Rattle.std.proofs.Common.{◌∙◌}
use Rattle.at_types.proofs.Defining.{new_order-found, if_ordered-done, if_ordered-refused}
use Rattle.at_types.proofs.classes.Classes.plan_order.Goals as goal

pub returns-in-Some-clause-order : goal.returns-in-Some-clause-order
returns-in-Some-clause-order c =
    new_order-found c.args.self.now c.args.c c.args.bases.now c.as_slice.result.now c.in_ok-order.field-0 c.requires.whole c.requires.range c.requires.free c.requires.made c.as_slice.ensures c.in_ok-order.ensures
    ∙ c.in-Some.is

pub returns-in-Some-clause-reply : goal.returns-in-Some-clause-reply
returns-in-Some-clause-reply c = if_ordered-done c.args.self.now c.args.c c.args.bases.now c.in-Some.order c.requires.whole c.requires.free (returns-in-Some-clause-order c)

pub returns-in-None-clause-reply : goal.returns-in-None-clause-reply
returns-in-None-clause-reply c =
    if_ordered-refused c.args.self.now c.args.c c.args.bases.now c.requires.whole c.requires.range c.requires.free
    (new_order-found c.args.self.now c.args.c c.args.bases.now c.as_slice.result.now c.in_ok-order.field-0 c.requires.whole c.requires.range c.requires.free c.requires.made c.as_slice.ensures c.in_ok-order.ensures
    ∙ c.in-None.is)
