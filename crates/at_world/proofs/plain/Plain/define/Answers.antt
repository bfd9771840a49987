use Rattle.std.proofs.Common.{◌≡◌, ap, sym, subst, arith, length, set, None, Some, Err}
use Rattle.at_value.specs.declared.reply.Reply.TheVariants as replies
use Rattle.at_value.specs.Widths as widths
use Rattle.at_model.specs.World.{row_of, new_row, order_of}
use Rattle.at_model.specs.Step.{with_class, if_ordered}
use Rattle.at_model.specs.StoredOrders.{AreOrders}
use Rattle.at_world.specs.Plain.{PlainState, lists_of}
use Rattle.at_world.proofs.Definitions.{IsCoherent-defined, defined_state, refused_state}
use Rattle.at_world.proofs.plain.Plain.define.Goals as goal

pub invariant_of-self : goal.invariant_of-self
invariant_of-self c =
    let IsFree : PlainState → Type 0 = λ s. row_of s.world.classes c.args.c ≡ None in
    let IsOrder : PlainState → Type 0 = λ s. order_of (with_class s.world c.args.c c.args.bases.now) c.args.c ≡ Some c.in-Ok.order.items in
    IsCoherent-defined c.self.inside.classes.items c.self.inside.orders.items c.self.inside.objects.items c.self.inside.dicts.items c.args.c c.from-i.result c.args.bases.now c.new.result c.in-Ok.order
    c.self.invariant (subst IsFree (sym c.self.view_is) c.requires.free) (omega (arith, c.number.ensures.same, c.number.ensures.range))
    (subst IsOrder (sym c.self.view_is) c.in-Ok.ensures.ordered) (omega (arith, c.from-i.ensures, c.number.ensures.same)) c.new.ensures

pub returns-in-Ok-clause-ok : goal.returns-in-Ok-clause-ok
returns-in-Ok-clause-ok c =
    let IsFree : PlainState → Type 0 = λ s. row_of s.world.classes c.args.c ≡ None in
    let IsOrder : PlainState → Type 0 = λ s. order_of (with_class s.world c.args.c c.args.bases.now) c.args.c ≡ Some c.in-Ok.order.items in
    let now : PlainState = record {
      world = record {
        classes = set c.self.inside.classes.items c.from-i.result (Some (record (new_row c.args.bases.now) { own = c.new.result }));
        objects = c.self.inside.objects.items;
        dicts = c.self.inside.dicts.items;
      };
      place = c.self.inside.place;
    } in
    let Claim : PlainState → Type 0 = λ s.
    (replies.Done ≡ (if_ordered s.world (with_class s.world c.args.c c.args.bases.now)).reply) × (now ≡ record { world = (if_ordered s.world (with_class s.world c.args.c c.args.bases.now)).world; place = s.place }) in
    subst Claim c.self.view_is (defined_state c.self.inside.classes.items (lists_of c.self.inside.orders.items) c.self.inside.objects.items c.self.inside.dicts.items c.self.inside.place c.args.c c.from-i.result c.args.bases.now c.in-Ok.order.items c.new.result
    c.self.invariant.orders_are (subst IsFree (sym c.self.view_is) c.requires.free) (subst IsOrder (sym c.self.view_is) c.in-Ok.ensures.ordered) (omega (arith, c.from-i.ensures, c.number.ensures.same)) c.new.ensures)

pub returns-in-Err-NoHead-clause-ok : goal.returns-in-Err-NoHead-clause-ok
returns-in-Err-NoHead-clause-ok c =
    let AreKept : PlainState → Type 0 = λ s. AreOrders s.world.classes (lists_of c.self.inside.orders.items) in
    let IsLong : PlainState → Type 0 = λ s. length s.world.classes ≡ widths.classes in
    let long : length c.args.self.now.world.classes ≡ widths.classes = subst IsLong c.self.view_is c.self.invariant.numbered in
    refused_state c.args.self.now (lists_of c.self.inside.orders.items) c.args.c c.args.bases.now (subst AreKept c.self.view_is c.self.invariant.orders_are) c.requires.free
    (omega (arith, long, c.number.ensures.same, c.number.ensures.range)) (c.in-Err-NoHead.ensures.none (ap (λ fault. Err fault) c.in-Err-NoHead.field-0-is))
