use Rattle.std.proofs.Common.{◌≡◌, ◌∙◌, ◌<◌, ap, sym, subst, arith, length, map, get_or, [], None, IsTrue}
use Rattle.std.proofs.lemmas.Result.{IfOk-weaker}
use Rattle.at_c3.specs.Merge.{order_of_lists}
use Rattle.at_model.specs.World.{row_of, order_of}
use Rattle.at_model.specs.Step.{are_made, with_class}
use Rattle.at_world.specs.Plain.{PlainState, lists_of}
use Rattle.at_world.proofs.Definitions.{gathered_order}
use Rattle.at_world.proofs.plain.Plain.order_with.Goals as goal

-- the order is that of the number and the bases, by the stored orders
gathered : (c : goal.After-order_from)
    → order_of (with_class c.args.self.now.world c.args.c c.args.bases.now) c.args.c
    ≡ order_of_lists c.number.result c.as_slice.result.now (map (λ b. get_or (lists_of c.deref.result.now) b []) c.as_slice.result.now)
gathered c =
    let below : c.args.c < length c.self.inside.classes.items = omega (arith, c.number.ensures.same, c.number.ensures.range, c.self.invariant.numbered) in
    let IsFree : PlainState → Type 0 = λ s. row_of s.world.classes c.args.c ≡ None in
    let AreMade : PlainState → Type 0 = λ s. IsTrue (are_made s.world c.args.bases.now) in
    rw (← c.self.view_is) (gathered_order c.self.inside.classes.items (lists_of c.self.inside.orders.items) (lists_of c.deref.result.now) c.args.c c.number.result c.args.bases.now c.as_slice.result.now
    c.self.invariant.orders_are (subst IsFree (sym c.self.view_is) c.requires.free) below (subst AreMade (sym c.self.view_is) c.requires.made) c.number.ensures.same c.as_slice.ensures
    (ap lists_of c.deref.ensures.value))

pub returns-clause-ordered : goal.returns-clause-ordered
returns-clause-ordered c = IfOk-weaker c.order_from.result _ _ (λ order found. gathered c ∙ found) c.order_from.ensures.ordered

pub returns-clause-none : goal.returns-clause-none
returns-clause-none c = λ fault. gathered c ∙ c.order_from.ensures.none fault
