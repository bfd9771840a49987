use Rattle.std.proofs.Common.{◌≡◌, ℕ, ◌+◌, ◌<◌, suc, List, ◌∷◌, map, eqb, sym, ap, subst, ◌∙◌, arith}
use Rattle.std.specs.Prelude.{Some}
use mathlib.Core.Option.{none}
use prog.Atomic.{either}
use Rattle.atomic_table.specs.Table.{Allows, Me, step}
use Rattle.at_model.specs.World.{opening}
use Rattle.at_view.specs.declared.view.View.{View}
use Rattle.at_view.specs.Words.{number_of}
use Rattle.at_view.proofs.WordLaws.{inside}
use Rattle.at_core.specs.Locks.{lock_word, slot_of}
use Rattle.at_core.specs.Opened.{opening_of}
use Rattle.at_core.specs.Plays.{Takes}
use Rattle.at_core.specs.Reads.{slot_number}
use Rattle.at_core.specs.Rule.{Base, Slot}
use Rattle.at_core.proofs.Allowed.{tries}
use Rattle.at_core.proofs.HandLemmas.{AreOnce, AreWithin, IsRight, not_among, once_more, within_more, right_marked, right_taken}
use Rattle.at_core.proofs.Moves.{lock_room}
use Rattle.at_core.proofs.locking.try_lock.Goals as goal

pub compare_exchange-found-requires : goal.compare_exchange-found-requires
compare_exchange-found-requires c =
    let l = c.args.lock in
    let seat = c.args.pass.now.seat in
    let table = c.args.world.now.table.shared in
    let new : ℕ = c.from-mine.result + 1 in
    let mine : new ≡ suc seat.me.0.who.number = (let n = c.args.pass.now.numbered.0 in let f = c.from-mine.ensures in omega (arith, n, f)) in
    let Q : ℕ → Type 0 = λ i. (i < table.table_id.words) × Allows (Base (opening_of table.key) table.key) table.table_id.slots seat.id seat.me i (λ n. either (eqb n 0) new n) (Takes opening (step table.table_id.slots i 0 new none) seat.me) in
    let room : number_of (lock_word l) < table.table_id.words = subst (λ (n : ℕ). number_of (lock_word l) < n) (sym c.args.world.now.sized.0) (inside (lock_word l) c.slot-slot.ensures.lock) in
    let owed : Q c.word.result = subst Q (sym c.word.ensures) (room, tries opening table.key table.table_id.slots seat.id seat.me l new c.slot-slot.ensures.lock c.args.pass.now.live c.requires.out mine) in
    (c.requires.of.table, owed.0, owed.1)

-- the pass has the lock, and its slot in front
pub invariant_of-pass : goal.invariant_of-pass
invariant_of-pass c =
    let l = c.args.lock in
    let p = c.args.pass.now in
    let me = p.seat.me in
    let is = c.slot-slot.ensures.lock in
    let took = (c.compare_exchange-found.ensures.2 l (record { there = is; is = c.word.ensures })).2 c.if-found-eq0.true in
    let e = took.2 in
    let out = not_among (slot_of l) me.1 (p.right l is ∙ c.requires.out) in
    record {
      live = ap (λ m. m.0.who.live) e ∙ p.live;
      numbered = (ap (λ m. m.0.who.number) e ∙ p.numbered.0, p.numbered.1);
      turned = ap (λ m. m.0.tags.online) e ∙ p.turned;
      listed = c.insert.ensures.items ∙ (ap (λ (n : ℕ × List ℕ). n.0 ∷ n.1) (λ i. (c.slot-slot.ensures.slot i, p.listed i)) ∙ sym (ap (λ m. map slot_number m.1) e));
      once = subst (λ (m : Me Slot View). AreOnce m.1) (sym e) (once_more (slot_of l) (Some took.1) me.1 p.once out);
      within = subst (λ (m : Me Slot View). AreWithin m.1) (sym e) (within_more (slot_of l) (Some took.1) me.1 p.within (lock_room l is));
      right = subst (λ (m : Me Slot View). IsRight m) (sym e) (right_taken l me.0 took.0 (Some took.1) me.1 p.right);
    }

-- nothing has changed but for the mark
pub invariant_of-pass-else-found-eq0 : goal.invariant_of-pass-else-found-eq0
invariant_of-pass-else-found-eq0 c =
    let l = c.args.lock in
    let p = c.args.pass.now in
    let me = p.seat.me in
    let e = ((c.compare_exchange-found.ensures.2 l (record { there = c.slot-slot.ensures.lock; is = c.word.ensures })).3 c.if-found-eq0.false).0 in
    record {
      live = ap (λ m. m.0.who.live) e ∙ p.live;
      numbered = (ap (λ m. m.0.who.number) e ∙ p.numbered.0, p.numbered.1);
      turned = ap (λ m. m.0.tags.online) e ∙ p.turned;
      listed = p.listed ∙ sym (ap (λ m. map slot_number m.1) e);
      once = subst (λ (m : Me Slot View). AreOnce m.1) (sym e) p.once;
      within = subst (λ (m : Me Slot View). AreWithin m.1) (sym e) p.within;
      right = subst (λ (m : Me Slot View). IsRight m) (sym e) (right_marked me.0 _ me.1 p.right);
    }
