use Rattle.std.proofs.Common.{◌≡◌, ℕ, List, ◌++◌, ◌==◌, take, drop, length, refl, sym, ap, subst, ◌∙◌}
use Rattle.std.specs.Prelude.{Some, None, position}
use Rattle.atomic_table.specs.Table.{Me}
use Rattle.at_types.proofs.KeptLemmas.{refilled}
use Rattle.at_view.specs.declared.view.View.{View}
use Rattle.at_core.specs.Reads.{in_hand}
use Rattle.at_core.specs.Rule.{Slot}
use Rattle.at_core.proofs.HandLemmas.{numbers, AreOnce, AreWithin, IsRight, rotated_once, rotated_within, rotated_same, rotated_numbers, right_rotated, comes, found_one}
use Rattle.at_core.proofs.world.Pass.bring.Goals as goal

pub invariant_of-self : goal.invariant_of-self
invariant_of-self c =
    let p = c.args.self.now in
    let me = p.seat.me in
    let n = c.in-Some.place in
    let e = c.turn_by.ensures.turned in
    let was : c.deref_mut.result.now ≡ p.hand.items = c.deref_mut.ensures.value in
    let now : c.rotate_left.new.self ≡ drop n p.hand.items ++ take n p.hand.items = c.rotate_left.ensures.after ∙ ap (λ (ns : List ℕ). drop n ns ++ take n ns) was in
    let full = refilled (length p.hand.items) p.hand.items c.rotate_left.new.self refl (c.rotate_left.ensures.len ∙ ap length was) in
    record {
      live = ap (λ m. m.0.who.live) e ∙ p.live;
      numbered = (ap (λ m. m.0.who.number) e ∙ p.numbered.0, p.numbered.1);
      turned = ap (λ m. m.0.tags.online) e ∙ p.turned;
      listed = full ∙ (now ∙ (ap (λ (ns : List ℕ). drop n ns ++ take n ns) p.listed ∙ (rotated_numbers n me.1 ∙ sym (ap (λ m. numbers m.1) e))));
      once = subst (λ (m : Me Slot View). AreOnce m.1) (sym e) (rotated_once n me.1 p.once);
      within = subst (λ (m : Me Slot View). AreWithin m.1) (sym e) (rotated_within n me.1 p.within);
      right = subst (λ (m : Me Slot View). IsRight m) (sym e) (right_rotated n me.0 me.1 p.once p.right);
    }

pub returns-in-Some-clause-front : goal.returns-in-Some-clause-front
returns-in-Some-clause-front c =
    let p = c.args.self.now in
    let slots = p.seat.me.1 in
    let slot = c.args.slot in
    let at : position (λ m. m == slot) (numbers slots) ≡ Some c.in-Some.place = ap (position (λ m. m == slot)) (sym (c.deref.ensures.0 ∙ p.listed)) ∙ (sym c.place_of.ensures ∙ c.in-Some.is) in
    let found = comes slot c.in-Some.place slots c.requires at in
    (found.value, found.others, ap (λ m. m.1) c.turn_by.ensures.turned ∙ found.front)

pub returns-in-Some-clause-slots : goal.returns-in-Some-clause-slots
returns-in-Some-clause-slots c k =
    let p = c.args.self.now in
    ap (λ m. in_hand k m.1) c.turn_by.ensures.turned ∙ rotated_same c.in-Some.place p.seat.me.1 p.once k

pub returns-in_default-clause-front : goal.returns-in_default-clause-front
returns-in_default-clause-front c =
    let p = c.args.self.now in
    let slot = c.args.slot in
    let at : position (λ m. m == slot) (numbers p.seat.me.1) ≡ None = ap (position (λ m. m == slot)) (sym (c.deref.ensures.0 ∙ p.listed)) ∙ (sym c.place_of.ensures ∙ c.in_default.is) in
    absurd (found_one slot p.seat.me.1 c.requires at)
