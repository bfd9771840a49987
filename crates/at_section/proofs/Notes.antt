-- Notes one after another.
use Rattle.std.proofs.Common.{◌≡◌, ℕ, zero, suc, ◌<◌, ◌+◌, List, [], ◌∷◌, ◌++◌, map, take, drop, length, set, refl, sym, ap, arith}
use Rattle.std.specs.Prelude.{Some, slice_get}
use Rattle.std.proofs.lemmas.List.Edits.{map_over_more}
use Rattle.std.proofs.lemmas.Option.{get_or_from_slice_get}

module _ {A : Type 0} where
  -- a list that is changed element by element
  pub changed_more : (f : A → A) (xs ys : List A) (i : ℕ) (x : A) → i < length xs → ys ≡ map f (take i xs) ++ drop i xs → slice_get ys i ≡ Some x → set ys i (f x) ≡ map f (take (i + 1) xs) ++ drop (i + 1) xs
  changed_more f xs ys i x lt e got = map_over_more f xs ys i x lt e (sym (get_or_from_slice_get ys i x x got))

  -- the last one
  pub record Last (xs : List A) (k : ℕ) : Type 0 where
    pub around : List A
    pub one : A
    pub is : xs ≡ around ++ one ∷ []
    pub got : slice_get xs k ≡ Some one

  pub last_got : (xs : List A) (k : ℕ) → suc k ≡ length xs → Last xs k
  last_got [] k e = absurd (omega arith)
  last_got (x ∷ []) zero e = record { around = []; one = x; is = refl; got = refl }
  last_got (x ∷ []) (suc k) e = absurd (omega arith)
  last_got (x ∷ y ∷ xs) zero e = absurd (omega arith)
  last_got (x ∷ y ∷ xs) (suc k) e = let r = last_got (y ∷ xs) k (omega arith) in record { around = x ∷ r.around; one = r.one; is = ap (λ t. x ∷ t) r.is; got = r.got }
