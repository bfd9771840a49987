-- What intending an operation makes of a view, and what a write tells that takes the next place.
use Rattle.std.specs.Prelude.{ℕ, suc, List, [], ◌∷◌, ◌++◌}
use Rattle.at_value.specs.declared.operation.Op as op
use Rattle.at_model.specs.World.{World}
use Rattle.at_model.specs.History.{replay, IsProper}
use Rattle.at_view.specs.declared.view.View.{View}
use Rattle.at_core.specs.PlacePlays.{Saw}
use Rattle.at_core.specs.PlaceSteps.{intent_stored}
use Rattle.at_core.specs.Writes.{IsSameAt}

-- words of the intended operation are stored, from the word of this number on
abbrev pub stored_from : ℕ → View → List ℕ → View
stored_from j v [] = v
stored_from j v (word ∷ words) = stored_from (suc j) (intent_stored v j word) words

-- all its words are stored
abbrev pub intending : View → List ℕ → View
intending v words = stored_from 0 v words

-- The history at the write comes after what the pass had seen; the write was one there too, and did what it would have done at what
-- the pass had seen.
pub record DoesTheSame (opened : World) (v : View) (at : List op.Op) (operation : op.Op) : Type 0 where
  pub saw : Saw opened v at
  pub proper : IsProper opened (at ++ operation ∷ [])
  pub same : IsSameAt (replay opened v.history.seen) (replay opened at) operation
