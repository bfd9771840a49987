use Rattle.std.proofs.Common.{ℕ, ◌<◌, sym, ap, ◌∙◌, subst, arith}
use Rattle.std.specs.Prelude.{is_some, map, ◌≤◌, suc}
use Rattle.at_model.specs.World.{opening}
use Rattle.at_types.specs.Tags.{times}
use Rattle.at_value.specs.Widths.{objects}
use Rattle.at_core.specs.Locks.{slot_of, holds}
use Rattle.at_core.specs.Reads.{in_hand, slot_number}
use Rattle.at_core.proofs.Allowed.{splits}
use Rattle.at_core.proofs.LockLemmas.{holds_parted}
use Rattle.at_core.proofs.family.split_off.Goals as goal

pub split_seat-seat-requires : goal.split_seat-seat-requires
split_seat-seat-requires c =
    let seat = c.args.pass.now.seat in
    let table = c.args.world.now.table.shared in
    let room : 0 < table.table_id.words = subst (λ (n : ℕ). 0 < n) (sym c.args.world.now.sized.0) (omega arith) in
    (c.requires.of.table, room, splits opening table.key seat.id seat.me.0 c.args.number c.args.pass.now.live c.requires.may.0)

pub invariant_of-pass : goal.invariant_of-pass
invariant_of-pass c =
    let p = c.args.pass.now in
    let e = c.split_seat-seat.ensures.2 in
    record {
      live = ap (λ m. m.0.who.live) e ∙ p.live;
      numbered = (ap (λ m. m.0.who.number) e ∙ p.numbered.0, p.numbered.1);
      turned = ap (λ m. m.0.tags.online) e ∙ p.turned;
      listed = p.listed ∙ sym (ap (λ m. map slot_number m.1) e);
      once = λ k. subst (λ hand. times k (map slot_number hand) ≤ 1) (sym (ap (λ m. m.1) e)) (p.once k);
      within = λ k. subst (λ hand. 0 < times k (map slot_number hand) → k < suc objects) (sym (ap (λ m. m.1) e)) (p.within k);
      right = λ l is. ap (λ m. is_some (in_hand (slot_of l) m.1)) e ∙ (p.right l is ∙ (sym (holds_parted l p.seat.me.0) ∙ sym (ap (λ m. holds l m.0) e)));
    }
