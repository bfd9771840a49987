-- What each store of a head, an inline value or a key owes, as in Allowed.
use Rattle.std.proofs.Common.{◌≡◌, ℕ, suc, ◌<◌, true, refl, sym, ap, ◌∙◌, subst, arith}
use mathlib.Core.Option.{none}
use Rattle.atomic_table.specs.Table.{Me, keeps, step, stepped, Allows}
use Rattle.at_value.specs.Widths.{objects}
use Rattle.at_value.specs.declared.limits.Limits.{Limits}
use Rattle.at_model.specs.World.{World}
use Rattle.at_view.specs.declared.mark.Mark.{Mark}
use Rattle.at_view.specs.declared.view.RowWords.{RowWords}
use Rattle.at_view.specs.declared.view.View.{View}
use Rattle.at_view.specs.Words.{number_of, head, key, inline_value}
use Rattle.at_core.specs.declared.lock.Lock as lock
use Rattle.at_core.specs.declared.lock.Lock.TheVariants as locks
use Rattle.at_core.specs.HeadSteps.{MayOpen, head_opened, MayClose, head_closed, MayStore, inline_stored, MayAppend, key_appended, with_row}
use Rattle.at_core.specs.HeadPlays.{OpensHead, ClosesHead, StoresInline, AppendsKey}
use Rattle.at_core.specs.Locks.{holds}
use Rattle.at_core.specs.Rule.{Slot, Base, Holds}
use Rattle.at_core.specs.Steps.{marked, copied_heads}
use Rattle.at_core.proofs.Writing.{open_moves, close_moves}
use Rattle.at_core.proofs.InlineStoring.{inline_moves}
use Rattle.at_core.proofs.Appending.{append_moves}

-- The locks that are held stay so

pub held_row : (l : lock.Lock) (o : ℕ) (words : RowWords) (m : Mark) (v : View) → holds l (marked (with_row o words v) m) ≡ holds l v
held_row locks.Types o words m v = refl
held_row (locks.Row k) o words m v = refl

pub held_appended : (l : lock.Lock) (v : View) (c i n : ℕ) → holds l (key_appended v c i n) ≡ holds l v
held_appended locks.Types v c i n = refl
held_appended (locks.Row k) v c i n = refl

module _ (opened : World) (limits : Limits) where
  -- a head is opened, with the word after the copy
  pub opens_head : (slots id o n : ℕ) (me : Me Slot View) → me.0.who.live ≡ true → o < objects → MayOpen me.0 o → n ≡ suc (copied_heads me.0 o)
      → Allows (Base opened limits) slots id me (number_of (head o)) (λ _. n) (λ _. OpensHead (step slots (number_of (head o)) n 0 none) me n)
  opens_head slots id o n me live small may is s b deep at fits = (
    head_opened me.0 o,
    keeps,
    tt,
    record { ghost = b.ghost; holds = subst (λ (k : ℕ). Holds opened limits (stepped s (number_of (head o)) k id me.1 (head_opened me.0 o) keeps) b.ghost) (sym is) (open_moves opened limits s b.ghost b.holds id me.0 at live me.1 o small may) },
    λ k less k_is.
        let same : o ≡ k = omega (arith, k_is) in
        (is ∙ ap (λ (x : ℕ). suc (copied_heads me.0 x)) same, ap (λ (x : ℕ). (head_opened me.0 x, me.1)) same),
  )

  -- a head is closed
  pub closes_head : (slots id o word : ℕ) (me : Me Slot View) → me.0.who.live ≡ true → o < objects → MayClose opened me.0 o word
      → Allows (Base opened limits) slots id me (number_of (head o)) (λ _. word) (λ _. ClosesHead (step slots (number_of (head o)) word 0 none) me word)
  closes_head slots id o word me live small may s b deep at fits = (
    head_closed me.0 o word,
    keeps,
    tt,
    record { ghost = b.ghost; holds = close_moves opened limits s b.ghost b.holds id me.0 at live me.1 o word small may },
    λ k less k_is. let same : o ≡ k = omega (arith, k_is) in ap (λ (x : ℕ). (head_closed me.0 x word, me.1)) same,
  )

  -- an inline value is stored
  pub stores_inline : (slots id o i word : ℕ) (me : Me Slot View) → me.0.who.live ≡ true → o < objects → MayStore me.0 o i word
      → Allows (Base opened limits) slots id me (number_of (inline_value o i)) (λ _. word) (λ _. StoresInline (step slots (number_of (inline_value o i)) word 0 none) me word)
  stores_inline slots id o i word me live small may s b deep at fits = (
    inline_stored me.0 o i word,
    keeps,
    tt,
    record { ghost = b.ghost; holds = inline_moves opened limits s b.ghost b.holds id me.0 at live me.1 o i word small may },
    λ k j less lt is.
        let few = may.index in
        let one : o ≡ k = omega (arith, is, few, lt) in
        let two : i ≡ j = omega (arith, is, one) in
        λ t. (inline_stored me.0 (one t) (two t) word, me.1),
  )

  -- a key is appended
  pub appends_key : (slots id c i n word : ℕ) (me : Me Slot View) → me.0.who.live ≡ true → MayAppend me.0 c i n → word ≡ suc n
      → Allows (Base opened limits) slots id me (number_of (key c i)) (λ _. word) (λ _. AppendsKey (step slots (number_of (key c i)) word 0 none) me word)
  appends_key slots id c i n word me live may is s b deep at fits = (
    key_appended me.0 c i n,
    keeps,
    tt,
    record { ghost = b.ghost; holds = subst (λ (k : ℕ). Holds opened limits (stepped s (number_of (key c i)) k id me.1 (key_appended me.0 c i n) keeps) b.ghost) (sym is) (append_moves opened limits s b.ghost b.holds id me.0 at live me.1 c i n may) },
    λ d j name less lt k_is first.
        let few = may.index in
        let one : c ≡ d = omega (arith, k_is, few, lt) in
        let two : i ≡ j = omega (arith, k_is, one) in
        let three : n ≡ name = omega (arith, is, first) in
        λ t. (key_appended me.0 (one t) (two t) (three t), me.1),
  )
