-- What the writes of the run that is written out cover.
use Rattle.std.proofs.Common.{◌≡◌, ℕ, zero, suc, ◌<◌, true, List, [], ◌∷◌, subst, arith}
use Rattle.std.specs.Prelude.{Contains, slice_index}
use Rattle.at_value.specs.Widths.{classes}
use Rattle.at_value.specs.declared.operation.Op as op
use Rattle.at_model.specs.World.{World}
use Rattle.at_line.specs.Kept.{rows_of}
use Rattle.at_view.specs.declared.view.View.{View}
use Rattle.at_core.specs.declared.lock.Lock.TheVariants as locks
use Rattle.at_core.specs.Heads.{IsOpened, IsInline}
use Rattle.at_core.specs.Locks.{holds}
use Rattle.at_core.specs.PlaceSteps.{Covers}
use Rattle.at_core.specs.Steps.{copied_heads}
use Rattle.at_core.specs.Writes.{moved_by}

-- the only base is the class 0
pub one_base : (i : ℕ) → slice_index (0 ∷ []) i < classes
one_base zero = omega arith
one_base (suc i) = omega arith

-- what is so of nothing, of the only one, and of the two that are one
of_none : (P : ℕ → Type 0) (xs : List ℕ) → xs ≡ [] → (o : ℕ) → Contains xs o → P o
of_none P xs none o c = let (i, lt, is) = subst (λ (ys : List ℕ). Contains ys o) none c in absurd (omega arith)

of_one : (P : ℕ → Type 0) (a : ℕ) → P a → (o : ℕ) → Contains (a ∷ []) o → P o
of_one P a p o (zero, lt, is) = subst P is p
of_one P a p o (suc i, lt, is) = absurd (omega arith)

of_both : (P : ℕ → Type 0) (a : ℕ) → P a → (o : ℕ) → Contains (a ∷ a ∷ []) o → P o
of_both P a p o (zero, lt, is) = subst P is p
of_both P a p o (suc zero, lt, is) = subst P is p
of_both P a p o (suc (suc i), lt, is) = absurd (omega arith)

module _ (w : World) (v : View) (operation : op.Op) where
  abbrev IsRow : ℕ → Type 0
  IsRow o = (holds (locks.Row o) v ≡ true) × ¬ IsInline (copied_heads v o)

  abbrev IsMoved : ℕ → Type 0
  IsMoved o = (holds (locks.Row o) v ≡ true) × IsOpened (copied_heads v o)

  -- a write that has no row and moves nothing
  pub covers_none : rows_of w operation ≡ [] → moved_by w operation ≡ [] → Covers w v operation
  covers_none rowless still = record { rows = of_none IsRow (rows_of w operation) rowless; moved = of_none IsMoved (moved_by w operation) still }

  -- one that moves an object
  pub covers_moved : (a : ℕ) → rows_of w operation ≡ [] → moved_by w operation ≡ a ∷ [] → IsMoved a → Covers w v operation
  covers_moved a rowless one is = record {
    rows = of_none IsRow (rows_of w operation) rowless;
    moved = λ o c. of_one IsMoved a is o (subst (λ (xs : List ℕ). Contains xs o) one c);
  }

  -- one of an object that names the dictionary that was born with it
  pub covers_row : (a : ℕ) → rows_of w operation ≡ a ∷ a ∷ [] → moved_by w operation ≡ [] → IsRow a → Covers w v operation
  covers_row a both still is = record {
    rows = λ o c. of_both IsRow a is o (subst (λ (xs : List ℕ). Contains xs o) both c);
    moved = of_none IsMoved (moved_by w operation) still;
  }
