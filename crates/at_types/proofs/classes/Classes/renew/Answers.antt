use Rattle.std.proofs.Common.{length, sym, subst, arith}
use Rattle.at_model.specs.Step.{rebased}
use Rattle.at_types.specs.Renewing.{NewOrders, AreRenewedFrom}
use Rattle.at_types.proofs.NewOrders.{renewed-start, renewed-back, renewed-whole}
use Rattle.at_types.proofs.classes.Classes.renew.Goals as goal

pub loop-left-init : goal.loop-left-init
loop-left-init c =
    let changed = rebased c.args.self.now c.args.c c.args.bases.now in
    record {
      renewed = subst (λ (renewed : NewOrders). AreRenewedFrom c.args.self.now changed c.args.below.now (length c.args.below.now) renewed) (sym c.requires.none)
          (renewed-start c.args.self.now changed c.args.below.now);
      within = omega arith;
    }

pub loop-left-preserved : goal.loop-left-preserved
loop-left-preserved c = record {
  renewed = rw c.put_order.ensures
      (renewed-back c.args.self.now c.args.c c.args.bases.now c.args.below.now c.loop-left.renewed c.loop-left.left c.in_ok-order.order c.requires.whole c.requires.made c.requires.acyclic
      c.requires.walk c.loop-left-test.true c.loop-left.invariant.within c.loop-left.invariant.renewed c.in_ok-order.ensures);
  within = omega arith;
}

pub returns : goal.returns
returns c =
    renewed-whole c.args.self.now c.args.c c.args.bases.now c.args.below.now c.loop-left.renewed c.loop-left.left c.requires.whole c.requires.made c.requires.acyclic c.requires.walk
    c.loop-left-test.false c.loop-left.invariant.renewed
