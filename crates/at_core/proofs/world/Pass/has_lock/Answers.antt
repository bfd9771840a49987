use Rattle.std.proofs.Common.{ℕ, ◌==◌, ap, ◌∙◌}
use Rattle.std.specs.Prelude.{is_some}
use Rattle.std.specs.List.{list_any}
use Rattle.at_core.specs.Reads.{in_hand}
use Rattle.at_core.proofs.HandOf.{any_in}
use Rattle.at_core.proofs.world.Pass.has_lock.Goals as goal

pub returns : goal.returns
returns c =
    let p = c.args.self.now in
    let slot = c.slot.result in
    c.has_slot.ensures ∙ (ap (list_any (λ n. n == slot)) (c.deref.ensures.0 ∙ p.listed) ∙ (any_in slot p.seat.me.1
    ∙ (ap (λ (n : ℕ). is_some (in_hand n p.seat.me.1)) c.slot.ensures.slot ∙ p.right c.args.lock.now c.slot.ensures.lock)))
