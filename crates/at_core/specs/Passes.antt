-- What contracts say of a pass and of its world.
use Rattle.std.specs.Prelude.{◌≡◌, ◌≢◌, ℕ, List, Option}
use Rattle.at_view.specs.declared.view.View.{View}
use Rattle.at_core.specs.declared.lock.Lock as lock
use Rattle.at_core.specs.declared.note.Note.{Note}
use Rattle.at_core.specs.declared.world.Pass.{Pass}
use Rattle.at_core.specs.declared.world.World.{World}
use Rattle.at_core.specs.Locks.{slot_of}
use Rattle.at_core.specs.Reads.{in_hand}
use Rattle.at_core.specs.Rule.{Slot}

-- what the pass knows
abbrev pub view : Pass → View
view p = p.seat.me.0

-- the slots that it has out, the one that it had at hand last first
abbrev pub hand : Pass → List (ℕ × Slot)
hand p = p.seat.me.1

-- the pass is one of this world's
pub record IsOf (p : Pass) (w : World) : Type 0 where
  pub table : p.seat.table_id ≡ w.table.shared.table_id
  pub limits : (view p).who.limits ≡ w.limits

-- what is noted of its critical sections, the innermost last
abbrev pub notes : Pass → List Note
notes p = p.notes.items

-- the same pass of the same world, with the same notes
pub record IsSame (p q : Pass) : Type 0 where
  pub table : q.seat.table_id ≡ p.seat.table_id
  pub seat : q.seat.id ≡ p.seat.id
  pub number : q.number ≡ p.number
  pub notes : q.notes ≡ p.notes

-- the same pass, which knows what it knew and has in hand what it had; its notes may be others
pub record IsNoted (p q : Pass) : Type 0 where
  pub seat : q.seat ≡ p.seat
  pub number : q.number ≡ p.number

-- what the slot of a lock has, where it is out to the pass
abbrev pub slot_at : Pass → lock.Lock → Option Slot
slot_at p l = in_hand (slot_of l) (hand p)

-- the slots of all locks are as they were
abbrev pub HasSameHand : Pass → Pass → Type 0
HasSameHand p q = (k : lock.Lock) → slot_at q k ≡ slot_at p k

-- the slots of all other locks are as they were
abbrev pub IsElsewhereSame : Pass → Pass → lock.Lock → Type 0
IsElsewhereSame p q l = (k : lock.Lock) → k ≢ l → slot_at q k ≡ slot_at p k
