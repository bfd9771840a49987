use Rattle.std.proofs.Common.{◌∙◌}
use Rattle.at_core.specs.declared.lock.Lock.TheVariants as locks
use Rattle.at_core.proofs.tests.make_and_set.Goals as goal

pub set_value-requires-clause-body : goal.set_value-requires-clause-body
set_value-requires-clause-body c =
    let b = c.take_both.ensures.body c.if-not-take_both.false in
    let r = locks.Row 0 in
    (b.0, c.make_object.ensures.same.2 r ∙ (c.append_first.ensures.same.2 r ∙ (c.write_class.ensures.same.2 r ∙ b.1)), b.2)
