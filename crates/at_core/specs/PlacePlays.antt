-- What each step on the count of writes tells the pass that makes it.
use Rattle.std.specs.Prelude.{ℕ, ◌≡◌, ◌≢◌, ◌<◌, ◌+◌, List, [], ◌∷◌, ◌++◌, length, All}
use mathlib.Core.List.{IsPrefix}
use Rattle.atomic_table.specs.Table.{Me, Step}
use Rattle.at_value.specs.declared.operation.Op as op
use Rattle.at_model.specs.World.{World}
use Rattle.at_model.specs.History.{replay, IsProper}
use Rattle.at_view.specs.declared.mark.StepKind.TheVariants as kinds
use Rattle.at_view.specs.declared.view.HeadLook.{HeadLook}
use Rattle.at_view.specs.declared.view.View.{View}
use Rattle.at_view.specs.Counts.{passes, intent_words}
use Rattle.at_view.specs.Words.{number_of, place, intent}
use Rattle.at_core.specs.Locks.{AreKeptAt}
use Rattle.at_core.specs.PlaceSteps.{place_loaded, intent_stored, Intends, written, unwritten}
use Rattle.at_core.specs.Plays.{IsAlone}
use Rattle.at_core.specs.Rule.{Slot}
use Rattle.at_core.specs.Writes.{IsSameAt}

-- What a pass learns of the history at a moment: it comes after what it had seen, and is that where the pass is alone; each lock
-- that is held has kept what it protects.
pub record Saw (opened : World) (v : View) (history : List op.Op) : Type 0 where
  pub later : IsPrefix v.history.seen history
  pub alone : IsAlone v → history ≡ v.history.seen
  pub proper : IsProper opened history
  pub kept : AreKeptAt opened v history

-- each head that was loaded is no later than the moment
abbrev pub AreEarlier : List HeadLook → List op.Op → Type 0
AreEarlier looks history = All (λ look. IsPrefix look.at history) looks

-- A load of the place finds how long the history is.
abbrev pub LoadsPlace : World → Step Slot → Me Slot View → ℕ → Me Slot View → Type 0
LoadsPlace opened st m n m' = st.word ≡ number_of place
    → (at : List op.Op) × (length at ≡ n) × (m' ≡ (place_loaded m.0 at, m.1)) × Saw opened m.0 at × AreEarlier m.0.looks at

-- A word of the intended operation is stored.
abbrev pub StoresIntent : Step Slot → Me Slot View → ℕ → Me Slot View → Type 0
StoresIntent st m n m' = (j : ℕ) → j < intent_words → st.word ≡ number_of (intent m.0.who.number j) → m' ≡ (intent_stored m.0 j st.first, m.1)

-- A commit finds how long the history is, and adds the intended operation to it, which does there what it did at what the pass had
-- seen.
abbrev pub Commits : World → Step Slot → Me Slot View → ℕ → Me Slot View → Type 0
Commits opened st m n m' = st.word ≡ number_of place → (operation : op.Op) → Intends m.0 operation
    → (at : List op.Op) × (length at ≡ n) × (m' ≡ (written kinds.Commit m.0 at operation, m.1)) × Saw opened m.0 at × (n < m.0.who.limits.place_max + passes)
    × IsProper opened (at ++ operation ∷ []) × IsSameAt (replay opened m.0.history.seen) (replay opened at) operation

-- So does one at the place that the pass has seen, where that is the place. Else it writes nothing: others wrote meanwhile, and the
-- pass isn't alone.
abbrev pub CommitsIf : World → Step Slot → Me Slot View → ℕ → Me Slot View → Type 0
CommitsIf opened st m n m' = st.word ≡ number_of place → (operation : op.Op) → Intends m.0 operation
    → (n ≡ length m.0.history.seen → (m' ≡ (written kinds.CommitIf m.0 m.0.history.seen operation, m.1)) × Saw opened m.0 m.0.history.seen
    × IsProper opened (m.0.history.seen ++ operation ∷ []))
    × (n ≢ length m.0.history.seen → (m' ≡ (unwritten m.0 n, m.1)) × (length m.0.history.seen < n) × ¬ IsAlone m.0)
