use Rattle.std.proofs.Common.{◌≡◌, sym, ◌∙◌, subst}
use Rattle.std.proofs.lemmas.Option.{same_Some}
use Rattle.at_view.specs.declared.view.View.{View}
use Rattle.at_core.specs.declared.lock.Lock.TheVariants as locks
use Rattle.at_core.specs.declared.stored.Stored as stored
use Rattle.at_lock.specs.Holding.{IsRightNow}
use Rattle.at_lock.proofs.Now.{right_now}
use Rattle.at_lock.proofs.slots.body_out.Goals as goal

pub returns-clause-now : goal.returns-clause-now
returns-clause-now c kept =
    let has = c.requires.has in
    let v = c.args.pass.now.seat.me.0 in
    let same = c.slot_out.ensures.same.2 in
    let is : has.value ≡ c.slot_out.result = same_Some _ _ (same_Some _ _ (sym has.within ∙ c.slot_out.ensures.value)) in
    let Q : View × stored.Stored → Type 0 = λ q. IsRightNow q.0 (locks.Row c.args.o) q.1 in
    subst Q (λ i. (sym same i, (is ∙ c.in-Body.is) i)) (right_now v (locks.Row c.args.o) has.value has.held kept has.right)
