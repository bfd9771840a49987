use Rattle.std.proofs.Common.{◌≡◌, ℕ, List, ◌∷◌, sym, ap, subst, ◌∙◌}
use Rattle.atomic_table.specs.Table.{Me, rest}
use Rattle.at_view.specs.declared.view.View.{View}
use Rattle.at_core.specs.Locks.{slot_of}
use Rattle.at_core.specs.Rule.{Slot}
use Rattle.at_core.proofs.HandLemmas.{numbers, AreOnce, AreWithin, IsRight, as_many}
use Rattle.at_core.proofs.locking.replace.Goals as goal

-- the slot in front has another value
pub invariant_of-pass : goal.invariant_of-pass
invariant_of-pass c =
    let p = c.bring.new.self in
    let v = p.seat.me.0 in
    let others = rest p.seat.me.1 in
    let was : p.seat.me.1 ≡ (c.from.result, c.exchange.result) ∷ others = c.exchange.ensures.2 in
    let e : c.exchange.new.seat.me ≡ (v, (c.from.result, c.args.value) ∷ others) = c.exchange.ensures.3 in
    let once : AreOnce ((c.from.result, c.exchange.result) ∷ others) = subst AreOnce was p.once in
    let within : AreWithin ((c.from.result, c.exchange.result) ∷ others) = subst AreWithin was p.within in
    let right : IsRight (v, (c.from.result, c.exchange.result) ∷ others) = subst (λ (slots : List (ℕ × Slot)). IsRight (v, slots)) was p.right in
    record {
      live = ap (λ m. m.0.who.live) e ∙ p.live;
      numbered = (ap (λ m. m.0.who.number) e ∙ p.numbered.0, p.numbered.1);
      turned = ap (λ m. m.0.tags.online) e ∙ p.turned;
      listed = p.listed ∙ (ap numbers was ∙ sym (ap (λ m. numbers m.1) e));
      once = subst (λ (m : Me Slot View). AreOnce m.1) (sym e) once;
      within = subst (λ (m : Me Slot View). AreWithin m.1) (sym e) within;
      right = subst (λ (m : Me Slot View). IsRight m) (sym e) (λ l is. as_many (slot_of l) c.from.result c.exchange.result c.args.value others ∙ right l is);
    }
