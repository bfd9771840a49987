-- Pairs in the order of the bytes of their names.
use Rattle.std.proofs.Common.{◌≡◌, ◌∙◌, ap, sym, refl, ℕ, ◌+◌, ◌<◌, List, [], ◌∷◌, arith, Bool, true, false, cond, subst, ◌⊎◌, inl, inr, slice_index, sum_by}
use Rattle.std.specs.declared.cmp.Ordering.{Ordering}
use Rattle.std.specs.declared.cmp.Ordering.TheVariants.{Less, Equal, Greater}
use Rattle.std.specs.Ordering.{nat_cmp, ordering_then, ordering_reverse, is_gt, is_lt}
use Rattle.std.specs.Cmp.{IsTotalOrder}
use Rattle.std.specs.Cmp.Lexicographic.{slice_cmp}
use Rattle.std.proofs.lemmas.Cmp.{upto, tied_itself, nat_cmp_total, nat_list_cmp_total, on_total, then_total}
use Rattle.std.proofs.lemmas.Bool.Decides.{nat_tests}
use Rattle.std.proofs.lemmas.List.Sums.{sum_by-cons}
use Rattle.std.specs.List.{All}
use Rattle.std.specs.List.Sorted.{IsPermutation, IsNonDecreasingBy}
use Rattle.std.proofs.lemmas.List.Sorted.{sum_by-IsPermutation}
use Rattle.std.proofs.lemmas.List.Elements.{All-contains}
use Rattle.at_value.specs.declared.value.Value.{Value}
use Rattle.at_value.specs.Pairs.{AreAbove, IsRising}
use Rattle.at_value.specs.Widths as widths
use Rattle.at_script.specs.Parts.{ScriptParts}
use Rattle.at_text.specs.Values.{text_at}
use Rattle.at_text.specs.Last.{inserted, by_bytes}
use Rattle.at_text.specs.Order.{name_cmp, IsUpto, AreKeys}
use Rattle.at_text.proofs.Sorting.{In, In-permutation, IsOrderly, orderly_unique, orderly_from_keys, contains_from_in}

-- names by bytes, and by their numbers, are in a total order
pub name_cmp_total : (texts : List (List ℕ)) → IsTotalOrder (name_cmp texts)
name_cmp_total texts = then_total (on_total (text_at texts) nat_list_cmp_total) nat_cmp_total

pub IsUpto-itself : (texts : List (List ℕ)) (a : ℕ) → IsUpto texts a a
IsUpto-itself texts a = ap is_gt (tied_itself (name_cmp_total texts) a)

tied_if : (o : Ordering) → is_gt o ≡ false → is_gt (ordering_reverse o) ≡ false → o ≡ Equal
tied_if Less p q = cc
tied_if Equal p q = refl
tied_if Greater p q = cc

same_if : (o : Ordering) (a b : ℕ) → ordering_then o (nat_cmp a b) ≡ Equal → a ≡ b
same_if Less a b tied = absurd cc
same_if Equal a b tied = grind (arith, nat_tests)
same_if Greater a b tied = absurd cc

pub IsUpto-antisymmetric : (texts : List (List ℕ)) (a b : ℕ) → IsUpto texts a b → IsUpto texts b a → a ≡ b
IsUpto-antisymmetric texts a b p q =
    let back : is_gt (ordering_reverse (name_cmp texts a b)) ≡ false = ap is_gt (sym ((name_cmp_total texts).antisymm b a)) ∙ q in
    same_if (slice_cmp nat_cmp (text_at texts a) (text_at texts b)) a b (tied_if (name_cmp texts a b) p back)

-- what the test of `inserted` says, for a name of a lower number
less_upto : (o : Ordering) (a b : ℕ) → is_lt o ≡ true → is_gt (ordering_then o (nat_cmp a b)) ≡ false
less_upto Less a b is = refl
less_upto Equal a b is = absurd cc
less_upto Greater a b is = absurd cc

upto_if : (o : Ordering) (a b : ℕ) → a < b → is_lt o ≡ false → is_gt (ordering_then (ordering_reverse o) (nat_cmp a b)) ≡ false
upto_if Less a b below is = absurd cc
upto_if Equal a b below is = grind (arith, nat_tests)
upto_if Greater a b below is = refl

upto_else : (texts : List (List ℕ)) (a b : ℕ) → a < b → is_lt (slice_cmp nat_cmp (text_at texts b) (text_at texts a)) ≡ false → IsUpto texts a b
upto_else texts a b below is =
    let T = text_at texts in
    let back : slice_cmp nat_cmp (T a) (T b) ≡ ordering_reverse (slice_cmp nat_cmp (T b) (T a)) = nat_list_cmp_total.antisymm (T a) (T b) in
    ap (λ o. is_gt (ordering_then o (nat_cmp a b))) back ∙ upto_if (slice_cmp nat_cmp (T b) (T a)) a b below is

-- a number that is above by what the list says
above_in : (n : ℕ) (xs : List (ℕ × Value)) → AreAbove n xs → (y : ℕ × Value) → In y xs → n < y.0
above_in n [] above y none = absurd none
above_in n (x ∷ xs) above y (inl is) = subst (λ (z : ℕ × Value). n < z.0) is above.0
above_in n (x ∷ xs) above y (inr within) = above_in n xs above.1 y within

-- pairs by rising number have each number once
rising_once : (xs : List (ℕ × Value)) → IsRising xs → (x y : ℕ × Value) → In x xs → In y xs → x.0 ≡ y.0 → x ≡ y
rising_once [] rising x y none in_y same = absurd none
rising_once (z ∷ xs) rising x y (inl p) (inl q) same = sym p ∙ q
rising_once (z ∷ xs) rising x y (inl p) (inr q) same =
    let first : z.0 ≡ x.0 = ap (λ (w : ℕ × Value). w.0) p in
    absurd (omega (arith, above_in z.0 xs rising.0 y q))
rising_once (z ∷ xs) rising x y (inr p) (inl q) same =
    let first : z.0 ≡ y.0 = ap (λ (w : ℕ × Value). w.0) q in
    absurd (omega (arith, above_in z.0 xs rising.0 x p))
rising_once (z ∷ xs) rising x y (inr p) (inr q) same = rising_once xs rising.1 x y p q same

module _ (s : ScriptParts) where
  -- the test of `inserted`
  abbrev after : ℕ × Value → ℕ × Value → Bool
  after pair next = is_lt (slice_cmp nat_cmp (text_at s.names next.0) (text_at s.names pair.0))

  abbrev placed : Bool → ℕ × Value → ℕ × Value → List (ℕ × Value) → List (ℕ × Value)
  placed b pair next rest = cond b (next ∷ inserted s pair rest) (pair ∷ next ∷ rest)

  sum_if : (f : ℕ × Value → ℕ) (b : Bool) (pair next : ℕ × Value) (rest : List (ℕ × Value)) → sum_by f (inserted s pair rest) ≡ f pair + sum_by f rest → sum_by f (placed b pair next rest) ≡ f pair + sum_by f (next ∷ rest)
  sum_if f false pair next rest more = sum_by-cons f pair (next ∷ rest)
  sum_if f true pair next rest more = omega (arith, more, sum_by-cons f next (inserted s pair rest), sum_by-cons f next rest)

  sum_with : (f : ℕ × Value → ℕ) (pair : ℕ × Value) (l : List (ℕ × Value)) → sum_by f (inserted s pair l) ≡ f pair + sum_by f l
  sum_with f pair [] = sum_by-cons f pair []
  sum_with f pair (next ∷ rest) = sum_if f (after pair next) pair next rest (sum_with f pair rest)

  -- sorting changes no sum over the pairs
  pub sum_by_bytes : (f : ℕ × Value → ℕ) (l : List (ℕ × Value)) → sum_by f (by_bytes s l) ≡ sum_by f l
  sum_by_bytes f [] = refl
  sum_by_bytes f (pair ∷ l) = sum_with f pair (by_bytes s l) ∙ ap (λ n. f pair + n) (sum_by_bytes f l) ∙ sym (sum_by-cons f pair l)

  in_if : (z : ℕ × Value) (b : Bool) (pair next : ℕ × Value) (rest : List (ℕ × Value)) → (In z (inserted s pair rest) → (pair ≡ z) ⊎ In z rest) → In z (placed b pair next rest) → (pair ≡ z) ⊎ In z (next ∷ rest)
  in_if z false pair next rest more within = within
  in_if z true pair next rest more (inl is) = inr (inl is)
  in_if z true pair next rest more (inr within) = elim (more within) [ inl is ↦ inl is | inr there ↦ inr (inr there) ]

  in_with : (z pair : ℕ × Value) (l : List (ℕ × Value)) → In z (inserted s pair l) → (pair ≡ z) ⊎ In z l
  in_with z pair [] within = within
  in_with z pair (next ∷ rest) within = in_if z (after pair next) pair next rest (in_with z pair rest) within

  -- sorting adds no pair
  pub in_by_bytes : (z : ℕ × Value) (l : List (ℕ × Value)) → In z (by_bytes s l) → In z l
  in_by_bytes z [] within = within
  in_by_bytes z (pair ∷ l) within = elim (in_with z pair (by_bytes s l) within) [ inl is ↦ inl is | inr there ↦ inr (in_by_bytes z l there) ]

  upto_next : (pair next : ℕ × Value) (rest : List (ℕ × Value)) → IsUpto s.names pair.0 next.0 → ((y : ℕ × Value) → In y rest → IsUpto s.names next.0 y.0) → (y : ℕ × Value) → In y (next ∷ rest) → IsUpto s.names pair.0 y.0
  upto_next pair next rest upto_it before y (inl is) = subst (λ (z : ℕ × Value). IsUpto s.names pair.0 z.0) is upto_it
  upto_next pair next rest upto_it before y (inr within) = upto (name_cmp_total s.names) pair.0 next.0 y.0 upto_it (before y within)

  next_upto : (pair next : ℕ × Value) (rest : List (ℕ × Value)) → IsUpto s.names next.0 pair.0 → ((y : ℕ × Value) → In y rest → IsUpto s.names next.0 y.0) → (y : ℕ × Value) → (pair ≡ y) ⊎ In y rest → IsUpto s.names next.0 y.0
  next_upto pair next rest upto_it before y (inl is) = subst (λ (z : ℕ × Value). IsUpto s.names next.0 z.0) is upto_it
  next_upto pair next rest upto_it before y (inr within) = before y within

  orderly_if : (b : Bool) (pair next : ℕ × Value) (rest : List (ℕ × Value)) → after pair next ≡ b → pair.0 < next.0 → IsOrderly (IsUpto s.names) (next ∷ rest) → IsOrderly (IsUpto s.names) (inserted s pair rest) → IsOrderly (IsUpto s.names) (placed b pair next rest)
  orderly_if false pair next rest is below orderly more =
      let upto_it = upto_else s.names pair.0 next.0 below is in
      (upto_next pair next rest upto_it orderly.0, orderly)
  orderly_if true pair next rest is below orderly more =
      let upto_it = less_upto (slice_cmp nat_cmp (text_at s.names next.0) (text_at s.names pair.0)) next.0 pair.0 is in
      (λ y within. next_upto pair next rest upto_it orderly.0 y (in_with y pair rest within), more)

  orderly_with : (pair : ℕ × Value) (l : List (ℕ × Value)) → ((y : ℕ × Value) → In y l → pair.0 < y.0) → IsOrderly (IsUpto s.names) l → IsOrderly (IsUpto s.names) (inserted s pair l)
  orderly_with pair [] below orderly = (λ y none. absurd none, tt)
  orderly_with pair (next ∷ rest) below orderly =
      orderly_if (after pair next) pair next rest refl (below next (inl refl)) orderly
      (orderly_with pair rest (λ y within. below y (inr within)) orderly.1)

  -- pairs that come by rising number are sorted
  pub orderly_by_bytes : (l : List (ℕ × Value)) → IsRising l → IsOrderly (IsUpto s.names) (by_bytes s l)
  orderly_by_bytes [] rising = tt
  orderly_by_bytes (pair ∷ l) rising =
      orderly_with pair (by_bytes s l) (λ y within. above_in pair.0 l rising.0 y (in_by_bytes y l within)) (orderly_by_bytes l rising.1)

  -- the same pairs by rising keys are those sorted by bytes
  pub by_bytes_from_keys : (keys : List ℕ) (own sorted : List (ℕ × Value)) → AreKeys s.names keys → IsRising own → All (λ p. p.0 < widths.names) own → IsPermutation own sorted → IsNonDecreasingBy (λ p. slice_index keys p.0) sorted → sorted ≡ by_bytes s own
  by_bytes_from_keys keys own sorted are rising small same up =
      let in_own : (x : ℕ × Value) → In x sorted → In x own = λ x within. In-permutation own sorted x same within in
      let low : (x : ℕ × Value) → In x sorted → x.0 < widths.names = λ x within. All-contains (λ (p : ℕ × Value). p.0 < widths.names) own x small (contains_from_in x own (in_own x within)) in
      let key : ℕ × Value → ℕ = λ p. slice_index keys p.0 in
      orderly_unique (IsUpto s.names) (IsUpto-itself s.names) (IsUpto-antisymmetric s.names) sorted (by_bytes s own)
      (λ f. sum_by_bytes f own ∙ sym (sum_by-IsPermutation f own sorted same))
      (λ x y in_x in_y. rising_once own rising x y (in_own x in_x) (in_by_bytes y own in_y))
      (orderly_from_keys (IsUpto s.names) key sorted (λ x y in_x in_y up_to. are x.0 y.0 (low x in_x) (low y in_y) up_to) up)
      (orderly_by_bytes own rising)
