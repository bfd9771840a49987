-- What is true of a pass after a step that leaves its hand, its number and its locks.
use Rattle.std.proofs.Common.{◌≡◌, ℕ, suc, ◌<◌, ◌≤◌, Bool, true, List, map, refl, sym, ap, ◌∙◌, subst}
use Rattle.std.specs.Prelude.{is_some}
use Rattle.atomic_table.specs.Table.{Me}
use Rattle.at_value.specs.Widths.{objects}
use Rattle.at_types.specs.Tags.{times}
use Rattle.at_view.specs.declared.view.View.{View}
use Rattle.at_view.specs.Counts.{passes}
use Rattle.at_core.specs.declared.lock.Lock as lock
use Rattle.at_core.specs.declared.world.Pass.{Pass}
use Rattle.at_core.specs.declared.world.World.{World}
use Rattle.at_core.specs.Locks.{slot_of, holds}
use Rattle.at_core.specs.Passes.{IsOf, IsSame, HasSameHand}
use Rattle.at_core.specs.Reads.{in_hand, slot_number}
use Rattle.at_core.specs.Rule.{Slot, IsLock}

-- it is the same pass of the same world, and has the same in hand
pub same_after : (p q : Pass) (world : World) (w : View) → q.seat.table_id ≡ p.seat.table_id → q.seat.id ≡ p.seat.id → q.number ≡ p.number → q.notes ≡ p.notes → q.seat.me ≡ (w, p.seat.me.1) → w.who.limits ≡ p.seat.me.0.who.limits → IsOf p world
    → IsSame p q × IsOf q world × HasSameHand p q
same_after p q world w table seat number notes e limits of = (
  record { table = table; seat = seat; number = number; notes = notes },
  record { table = table ∙ of.table; limits = ap (λ m. m.0.who.limits) e ∙ (limits ∙ of.limits) },
  λ l. ap (λ m. in_hand (slot_of l) m.1) e,
)

-- such a step leaves these of the view
pub record Leaves (v w : View) (online : Bool) : Type 0 where
  pub live : w.who.live ≡ v.who.live
  pub number : w.who.number ≡ v.who.number
  pub turned : w.tags.online ≡ online
  pub holds : (l : lock.Lock) → holds l w ≡ holds l v

-- what a pass is, of its number, of whether it is online and of its hand
pub record IsPass (number : ℕ) (online : Bool) (hand : List ℕ) (me : Me Slot View) : Type 0 where
  pub live : me.0.who.live ≡ true
  pub numbered : (me.0.who.number ≡ number) × (number < passes)
  pub turned : me.0.tags.online ≡ online
  pub listed : hand ≡ map slot_number me.1
  pub once : (k : ℕ) → times k (map slot_number me.1) ≤ 1
  pub within : (k : ℕ) → 0 < times k (map slot_number me.1) → k < suc objects
  pub right : (l : lock.Lock) → IsLock l → is_some (in_hand (slot_of l) me.1) ≡ holds l me.0

pub pass_after : (p : Pass) (w : View) (online : Bool) (me : Me Slot View) → me ≡ (w, p.seat.me.1) → Leaves p.seat.me.0 w online → IsPass p.number online p.hand.items me
pass_after p w online me e leaves = record {
  live = ap (λ m. m.0.who.live) e ∙ (leaves.live ∙ p.live);
  numbered = (ap (λ m. m.0.who.number) e ∙ (leaves.number ∙ p.numbered.0), p.numbered.1);
  turned = ap (λ m. m.0.tags.online) e ∙ leaves.turned;
  listed = p.listed ∙ sym (ap (λ m. map slot_number m.1) e);
  once = λ k. subst (λ hand. times k (map slot_number hand) ≤ 1) (sym (ap (λ m. m.1) e)) (p.once k);
  within = λ k. subst (λ hand. 0 < times k (map slot_number hand) → k < suc objects) (sym (ap (λ m. m.1) e)) (p.within k);
  right = λ l is. ap (λ m. is_some (in_hand (slot_of l) m.1)) e ∙ (p.right l is ∙ (sym (leaves.holds l) ∙ sym (ap (λ m. holds l m.0) e)));
}

-- The same pass

pub same_pass : (p : Pass) → IsSame p p
same_pass p = record { table = refl; seat = refl; number = refl; notes = refl }

pub same_then : (p q r : Pass) → IsSame p q → IsSame q r → IsSame p r
same_then p q r a b = record { table = b.table ∙ a.table; seat = b.seat ∙ a.seat; number = b.number ∙ a.number; notes = b.notes ∙ a.notes }
