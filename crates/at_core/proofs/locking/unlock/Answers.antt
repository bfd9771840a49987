use Rattle.std.proofs.Common.{◌≡◌, ℕ, ◌<◌, List, ◌∷◌, drop, sym, ap, subst, ◌∙◌}
use Rattle.std.specs.Prelude.{Some, is_some}
use mathlib.Core.Option.{none}
use Rattle.atomic_table.specs.Table.{Allows, Me, rest, step}
use Rattle.at_model.specs.World.{opening}
use Rattle.at_view.specs.declared.view.View.{View}
use Rattle.at_view.specs.Words.{number_of}
use Rattle.at_view.proofs.WordLaws.{inside}
use Rattle.at_core.specs.Locks.{lock_word, slot_of}
use Rattle.at_core.specs.Plays.{Gives}
use Rattle.at_core.specs.Reads.{in_hand}
use Rattle.at_core.specs.Rule.{Base, Slot}
use Rattle.at_core.specs.Steps.{given}
use Rattle.at_core.proofs.Allowed.{returns_it}
use Rattle.at_core.proofs.HandLemmas.{numbers, AreOnce, AreWithin, IsRight, brought_with, others_once, within_others, right_given}
use Rattle.at_core.proofs.locking.unlock.Goals as goal

pub bring-requires : goal.bring-requires
bring-requires c = ap is_some (ap (λ (n : ℕ). in_hand n c.args.pass.now.seat.me.1) c.slot.ensures.slot ∙ c.requires.has.2)

pub store-requires : goal.store-requires
store-requires c =
    let l = c.args.lock in
    let v = c.args.pass.now.seat.me.0 in
    let seat = c.bring.new.self.seat in
    let table = c.args.world.now.table.shared in
    let has = c.requires.has in
    let front = brought_with (slot_of l) c.slot.result (Some has.1) seat.me.1 c.args.pass.now.seat.me.1 c.slot.ensures.slot c.bring.ensures.front c.bring.ensures.slots has.2 in
    let me : seat.me ≡ (v, (slot_of l, Some has.1) ∷ front.0) = λ i. (c.bring.ensures.same.1 i, front.1 i) in
    let Q : ℕ × Me Slot View → Type 0 = λ q. Allows (Base opening table.key) table.table_id.slots seat.id q.1 q.0 (λ _. 0) (λ _. Gives (step table.table_id.slots q.0 0 0 none) q.1 0) in
    let room : number_of (lock_word l) < table.table_id.words = subst (λ (n : ℕ). number_of (lock_word l) < n) (sym c.args.world.now.sized.0) (inside (lock_word l) c.slot.ensures.lock) in (
      c.bring.ensures.same.0.table ∙ c.requires.of.table,
      subst (λ (n : ℕ). n < table.table_id.words) (sym c.word.ensures) room,
      subst Q (λ i. (sym c.word.ensures i, sym me i)) (returns_it opening table.key table.table_id.slots seat.id v l has.0 has.1 front.0 c.slot.ensures.lock c.args.pass.now.live has.3),
    )

-- the lock is given, and its slot is out of the hand
pub invariant_of-pass : goal.invariant_of-pass
invariant_of-pass c =
    let l = c.args.lock in
    let p = c.bring.new.self in
    let v = p.seat.me.0 in
    let has = c.requires.has in
    let front = brought_with (slot_of l) c.slot.result (Some has.1) p.seat.me.1 c.args.pass.now.seat.me.1 c.slot.ensures.slot c.bring.ensures.front c.bring.ensures.slots has.2 in
    let e : c.store.new.seat.me ≡ (given l v, front.0) = (c.store.ensures.2 l (record { there = c.slot.ensures.lock; is = c.word.ensures })).1 ∙ ap (λ slots. (given l v, rest slots)) front.1 in
    let once : AreOnce ((slot_of l, Some has.1) ∷ front.0) = subst AreOnce front.1 p.once in
    let right : IsRight (v, (slot_of l, Some has.1) ∷ front.0) = subst (λ (slots : List (ℕ × Slot)). IsRight (v, slots)) front.1 p.right in
    record {
      live = ap (λ m. m.0.who.live) e ∙ p.live;
      numbered = (ap (λ m. m.0.who.number) e ∙ p.numbered.0, p.numbered.1);
      turned = ap (λ m. m.0.tags.online) e ∙ p.turned;
      listed = c.remove.ensures.items ∙ (ap (drop 1) (p.listed ∙ ap numbers front.1) ∙ sym (ap (λ m. numbers m.1) e));
      once = subst (λ (m : Me Slot View). AreOnce m.1) (sym e) (others_once (slot_of l, Some has.1) front.0 once);
      within = subst (λ (m : Me Slot View). AreWithin m.1) (sym e) (within_others (slot_of l, Some has.1) front.0 (subst AreWithin front.1 p.within));
      right = subst (λ (m : Me Slot View). IsRight m) (sym e) (right_given l v (Some has.1) front.0 once right);
    }
