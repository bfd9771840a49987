-- Steps of a pass between calls of sections: it loads and stores, and neither tries to take a lock nor gives one.
use Rattle.std.specs.Prelude.{◌≡◌, Bool, true, false, List, ◌++◌}
use Rattle.at_view.specs.declared.mark.Mark.{Mark}
use Rattle.at_view.specs.declared.view.View.{View}
use Rattle.at_core.specs.declared.lock.Lock as lock
use Rattle.at_core.specs.declared.world.Pass.{Pass}
use Rattle.at_core.specs.Locks.{hold_of, holds}
use Rattle.at_core.specs.Passes.{notes, view}
use Rattle.at_section.specs.Deeds.{Deed, tries, gives, loads, other, deed_of, Every}
use Rattle.at_section.specs.Sections.{Stay}
use Rattle.at_section.specs.Surfaces.{AreSettled}

-- neither a try nor a give
abbrev pub is_quiet : Deed → Bool
is_quiet tries = false
is_quiet gives = false
is_quiet loads = true
is_quiet other = true

abbrev pub AreQuiet : List Mark → Type 0
AreQuiet ms = Every (λ m. is_quiet (deed_of m.kind) ≡ true) ms

-- the view has the lock exactly if it had it, and from the same point on
pub record IsHeldAs (l : lock.Lock) (v w : View) : Type 0 where
  pub held : holds l w ≡ holds l v
  pub entered : holds l v ≡ true → (hold_of l w).entered ≡ (hold_of l v).entered

-- The pass has gone on by such steps: it has the locks that it had.
pub record GoesOn (v w : View) : Type 0 where
  pub marks : List Mark
  pub trace : w.trace ≡ v.trace ++ marks
  pub quiet : AreQuiet marks
  pub locks : (l : lock.Lock) → IsHeldAs l v w

-- A pass that goes on so stays in its sections, where each has its locks exactly if all of them are held.
abbrev pub QuietStepsStay : Type 0
QuietStepsStay = (p q : Pass) → AreSettled (view p) (notes p) → GoesOn (view p) (view q) → notes q ≡ notes p → Stay p q
