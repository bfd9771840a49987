-- What the steps of the tests' helpers leave.
use Rattle.std.proofs.Common.{◌≡◌, ◌<◌, ℕ, suc, Some, true, List, [], ◌∷◌, length, refl, sym, ap, ◌∙◌, subst}
use Rattle.std.specs.Prelude.{slice_get}
use Rattle.at_value.specs.declared.limits.Limits.{Limits}
use Rattle.at_value.specs.declared.operation.Op as op
use Rattle.at_value.specs.Packing.{words_of}
use Rattle.at_model.specs.declared.rows.Object.{Object}
use Rattle.at_model.specs.World.{opening}
use Rattle.at_model.specs.History.{replay}
use Rattle.at_core.specs.declared.lock.Lock.TheVariants as locks
use Rattle.at_view.specs.declared.view.View.{View}
use Rattle.at_core.specs.Plays.{IsAlone}
use Rattle.at_core.specs.Heads.{inline, sequence_of}
use Rattle.at_core.specs.HeadSteps.{MayClose, head_loaded, head_opened, head_closed}
use Rattle.at_core.specs.Locks.{hold_of}
use Rattle.at_core.specs.PlaceSteps.{place_loaded}
use Rattle.at_core.specs.SomeRun.{head_of, new_class, new_object}
use Rattle.at_core.specs.Steps.{copied_heads}
use Rattle.at_core.specs.Trials.{IsAt, eight, HasClass, HasObject}
use Rattle.at_core.proofs.Trials.{at_closed, at_loaded, at_opened, fresh_after, head_is, made, may_close_made}
use Rattle.at_head.specs.HeadWords.{closed_with, word_of}
use Rattle.at_head.specs.declared.head.Layout.TheVariants as layouts
use Rattle.at_place.specs.Intending.{intending}

module _ (history : List op.Op) (words : List ℕ) (head : ℕ) (row : List ℕ) (v : View) (h : IsAt history words head row v) where
  pub at_head_loaded : (o : ℕ) (at : List op.Op) (word : ℕ) → IsAt history words head row (head_loaded v o at word)
  at_head_loaded o at word = record { alone = record { first = h.alone.first; childless = h.alone.childless }; seen = h.seen; intends = h.intends; types = h.types; row = h.row; copy = h.copy }

  pub at_intending : (a b c d : ℕ) → IsAt history (a ∷ b ∷ c ∷ d ∷ []) head row (intending v (a ∷ b ∷ c ∷ d ∷ []))
  at_intending a b c d = record { alone = record { first = h.alone.first; childless = h.alone.childless }; seen = h.seen; intends = refl; types = h.types; row = h.row; copy = h.copy }

-- once the place is loaded, and the words of an operation are stored
module _ (history : List op.Op) (words : List ℕ) (head : ℕ) (row : List ℕ) (v x w : View) (h : IsAt history words head row v) (at : List op.Op) (alone : IsAlone v → at ≡ v.history.seen)
    (loaded : x ≡ place_loaded v at) (a b c d : ℕ) (stored : w ≡ intending x (a ∷ b ∷ c ∷ d ∷ [])) where
  is : w ≡ intending (place_loaded v at) (a ∷ b ∷ c ∷ d ∷ [])
  is = stored ∙ ap (λ (y : View). intending y (a ∷ b ∷ c ∷ d ∷ [])) loaded

  pub ready : IsAt history (a ∷ b ∷ c ∷ d ∷ []) head row w
  ready = subst (IsAt history (a ∷ b ∷ c ∷ d ∷ []) head row) (sym is) (at_intending history words head row (place_loaded v at) (at_loaded history words head row v h at (alone h.alone ∙ h.seen)) a b c d)

  pub ready_fresh : (limits : Limits) → v.who.limits ≡ limits → length history < limits.place_max → w.intent.fresh ≡ true
  ready_fresh limits limited below = ap (λ (y : View). y.intent.fresh) is ∙ fresh_after v at history limits (alone h.alone ∙ h.seen) limited below

-- The object 0 is made

abbrev pub one : List op.Op
one = new_class ∷ []

-- its head was loaded and opened
pub at_open : (v u : View) → HasClass v → (o : ℕ) → o ≡ 0 → (at : List op.Op) → u ≡ head_opened (head_loaded v o at (copied_heads v o)) o → IsAt one (words_of new_class) 1 (eight 0) u
at_open v u h o none at opened =
    let word : ℕ = copied_heads v 0 in
    let is : u ≡ head_opened (head_loaded v 0 at word) 0 = opened ∙ ap (λ (k : ℕ). head_opened (head_loaded v k at (copied_heads v k)) k) none in
    subst (IsAt one (words_of new_class) 1 (eight 0)) (sym is) (at_opened one (words_of new_class) 0 (eight 0) (head_loaded v 0 at word) (at_head_loaded one (words_of new_class) 0 (eight 0) v h 0 at word))

-- its head is loaded and closed
module _ (u : View) (h : IsAt made (words_of new_object) 1 (eight 0) u) (o c : ℕ) (none : o ≡ 0) (first : c ≡ 1) where
  word_is : word_of (closed_with u o c layouts.Inline o) ≡ head_of inline 0
  word_is =
      let heads : copied_heads u o ≡ 1 = ap (copied_heads u) none ∙ head_is made (words_of new_object) 1 (eight 0) u h in
      λ t. word_of (record { sequence = suc (sequence_of (heads t)); class = first t; layout = layouts.Inline; row = none t })

  pub may_close : (hold_of (locks.Row 0) u).since ≡ made → MayClose opening u o (word_of (closed_with u o c layouts.Inline o))
  may_close since =
      let Q : ℕ × ℕ → Type 0 = λ p. MayClose opening u p.0 p.1 in
      subst Q (λ t. (sym none t, sym word_is t)) (may_close_made u h since)

  pub at_close : (y : View) (at : List op.Op) → y ≡ head_closed (head_loaded u o at (copied_heads u o)) o (word_of (closed_with u o c layouts.Inline o)) → HasObject y
  at_close y at closed =
      let word : ℕ = copied_heads u 0 in
      let same : head_closed (head_loaded u o at (copied_heads u o)) o (word_of (closed_with u o c layouts.Inline o)) ≡ head_closed (head_loaded u 0 at word) 0 (head_of inline 0) =
      λ t. head_closed (head_loaded u (none t) at (copied_heads u (none t))) (none t) (word_is t) in
      subst HasObject (sym (closed ∙ same)) (at_closed made (words_of new_object) 1 (eight 0) (head_loaded u 0 at word) (at_head_loaded made (words_of new_object) 1 (eight 0) u h 0 at word) (head_of inline 0))

-- then it was made in what the pass has seen
pub has_made : (v : View) → HasObject v → (o : ℕ) → o ≡ 0 → (found : Object) × (slice_get (replay opening v.history.seen).objects o ≡ Some found)
has_made v h o none =
    let seen : v.history.seen ≡ made = h.seen in
    (record { class = 1; dict = 0 }, ap (λ (k : ℕ). slice_get (replay opening v.history.seen).objects k) none ∙ ap (λ (xs : List op.Op). slice_get (replay opening xs).objects 0) seen)
