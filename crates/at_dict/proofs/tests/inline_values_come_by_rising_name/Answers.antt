use Rattle.std.proofs.Common.{ℕ, zero, suc, ◌≡◌, ◌≢◌, ◌≤◌, ◌∷◌, inl, inr, pos, replicate, slice_index, sym, refl, arith}
use Rattle.at_value.specs.declared.value.Value.TheVariants as values
use Rattle.at_value.specs.Widths.{names}
use Rattle.at_dict.specs.Inline.{IsCell, AreInline}
use Rattle.at_dict.proofs.tests.inline_values_come_by_rising_name.Goals as goal

zeros : (n i : ℕ) → slice_index (replicate n 0) i ≡ 0
zeros zero zero = refl
zeros zero (suc i) = refl
zeros (suc n) zero = refl
zeros (suc n) (suc i) = zeros n i

-- two keys of names that differ, and their words
module _ (a b n u w : ℕ) (differ : a ≢ b) (first : suc a ≤ names) (second : suc b ≤ names) where
  abbrev keys : ℕ → ℕ
  keys = slice_index (suc a ∷ suc b ∷ replicate n 0)

  abbrev words : ℕ → ℕ
  words = slice_index (u ∷ w ∷ replicate n 0)

  small : (i : ℕ) → keys i ≤ names
  small zero = first
  small (suc zero) = second
  small (suc (suc i)) = let z = zeros n i in omega arith

  distinct : (i j m : ℕ) → keys i ≡ suc m → keys j ≡ suc m → i ≡ j
  distinct zero zero m e f = refl
  distinct zero (suc zero) m e f = absurd (differ (omega arith))
  distinct zero (suc (suc j)) m e f = let z = zeros n j in absurd (omega arith)
  distinct (suc zero) zero m e f = absurd (differ (omega arith))
  distinct (suc zero) (suc zero) m e f = refl
  distinct (suc zero) (suc (suc j)) m e f = let z = zeros n j in absurd (omega arith)
  distinct (suc (suc i)) j m e f = let z = zeros n i in absurd (omega arith)

  cells : IsCell u → IsCell w → (i : ℕ) → IsCell (words i)
  cells one other zero = one
  cells one other (suc zero) = other
  cells one other (suc (suc i)) = inl (zeros n i)

  past : (i : ℕ) → keys i ≡ 0 → words i ≡ 0
  past zero e = absurd (omega arith)
  past (suc zero) e = absurd (omega arith)
  past (suc (suc i)) e = zeros n i

  are_inline : IsCell u → IsCell w → AreInline keys words
  are_inline one other = record { small = small; distinct = distinct; cells = cells one other; past = past }

pub from_inline-requires-clause-inline : goal.from_inline-requires-clause-inline
from_inline-requires-clause-inline g c =
    let one : IsCell c.to_word.result = inr (values.Int (pos 7), (c.to_word.ensures.range, sym c.to_word.ensures.word)) in
    let other : IsCell c.to_word-2.result = inr (values.Nothing, (c.to_word-2.ensures.range, sym c.to_word-2.ensures.word)) in
    let differ : 200 ≢ 100 = λ e. omega (arith, e) in
    are_inline 200 100 6 c.to_word.result c.to_word-2.result differ (omega arith) (omega arith) one other
