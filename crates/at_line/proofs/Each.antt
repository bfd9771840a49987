-- What holds of each element of a list after those before it.
use Rattle.std.proofs.Common.{get_or, ◌≡◌, ℕ, zero, suc, ◌<◌, List, [], ◌∷◌, ◌++◌, length, append_assoc, append-nil, take, Some, slice_get, sym, subst, arith}
use Rattle.std.specs.Prelude.{All, AllPairs}
use Rattle.std.proofs.lemmas.List.{length-take, get_or-take}
use Rattle.std.proofs.lemmas.List.Elements.{All-nil, All-cons, All-head, All-tail}
use Rattle.std.proofs.lemmas.Option.{slice_get-get_or}
use Rattle.at_line.specs.Lines.{EachAfter}

module _ {X : Type 0} where
  pub each_after-nil : (P : List X → X → Type 0) → EachAfter P []
  each_after-nil P i x at = absurd cc

  pub each_after-cons : (P : List X → X → Type 0) (x : X) (xs : List X) → P [] x → EachAfter (λ before y. P (x ∷ before) y) xs → EachAfter P (x ∷ xs)
  each_after-cons P x xs first rest zero y at = let same : x ≡ y = cc in subst (P []) same first
  each_after-cons P x xs first rest (suc i) y at = rest i y at

  pub each_after-weaker : (P Q : List X → X → Type 0) (xs : List X) → ((before : List X) (x : X) → P before x → Q before x) → EachAfter P xs → EachAfter Q xs
  each_after-weaker P Q xs so each i x at = so (take i xs) x (each i x at)

  -- what holds of each two elements holds of each element with all before it
  module _ (R : X → X → Type 0) where
    both : (x y : X) (before : List X) → R x y → All (λ z. R z y) before → All (λ z. R z y) (x ∷ before)
    both x y before here more = All-cons (λ z. R z y) x before here more

    add_first : (x : X) (xs : List X) → All (R x) xs → EachAfter (λ before y. All (λ z. R z y) before) xs → EachAfter (λ before y. All (λ z. R z y) (x ∷ before)) xs
    add_first x [] all each i y at = absurd cc
    add_first x (w ∷ xs) all each i y at = both x y (take i (w ∷ xs)) (at_index (w ∷ xs) all i y at) (each i y at)
      where
        at_index : (ys : List X) → All (R x) ys → (i : ℕ) (y : X) → slice_get ys i ≡ Some y → R x y
        at_index [] all i y at = absurd cc
        at_index (z ∷ zs) all zero y at = let same : z ≡ y = cc in subst (R x) same (All-head (R x) z zs all)
        at_index (z ∷ zs) all (suc i) y at = at_index zs (All-tail (R x) z zs all) i y at

    pub each_after-from_pairs : (xs : List X) → AllPairs R xs → EachAfter (λ before y. All (λ z. R z y) before) xs
    each_after-from_pairs [] pairs = each_after-nil (λ before y. All (λ z. R z y) before)
    each_after-from_pairs (x ∷ xs) pairs =
        each_after-cons (λ before y. All (λ z. R z y) before) x xs (All-nil (λ z. R z x))
        (add_first x xs (λ k d within. pairs 0 (suc k) d (omega arith) (omega arith)) (each_after-from_pairs xs (λ i j d before within. pairs (suc i) (suc j) d (omega arith) (omega arith))))

    -- and the other way round
    pub pairs-from_each_after : (xs : List X) → EachAfter (λ before y. All (λ z. R z y) before) xs → AllPairs R xs
    pairs-from_each_after xs each i j d before within =
        let inside : i < length (take j xs) = omega (arith, length-take j xs) in
        subst (λ z. R z (get_or xs j d)) (get_or-take j xs i d before) (each j (get_or xs j d) (slice_get-get_or xs j d within) i d inside)

  -- what each element has whatever stands before it
  pub all-from_each_after : (P : List X → X → Type 0) (Q : X → Type 0) (xs : List X) → ((before : List X) (x : X) → P before x → Q x) → EachAfter P xs → All Q xs
  all-from_each_after P Q xs so each i d within = so (take i xs) (get_or xs i d) (each i (get_or xs i d) (slice_get-get_or xs i d within))

  -- each element of a list that is written out, with those before it
  abbrev pub EachByRecursion : (List X → X → Type 0) → List X → List X → Type 0
  EachByRecursion P before [] = Unit {0}
  EachByRecursion P before (x ∷ xs) = P before x × EachByRecursion P (before ++ x ∷ []) xs

  each_after-given : (P : List X → X → Type 0) (before xs : List X) → EachByRecursion P before xs → EachAfter (λ first x. P (before ++ first) x) xs
  each_after-given P before [] all i x at = absurd cc
  each_after-given P before (y ∷ xs) all zero x at = let same : y ≡ x = cc in subst (λ z. P (before ++ []) z) same (subst (λ l. P l y) (sym (append-nil before)) all.0)
  each_after-given P before (y ∷ xs) all (suc i) x at = subst (λ l. P l x) (append_assoc before (y ∷ []) (take i xs)) (each_after-given P (before ++ y ∷ []) xs all.1 i x at)

  pub each_after-from_recursion : (P : List X → X → Type 0) (xs : List X) → EachByRecursion P [] xs → EachAfter P xs
  each_after-from_recursion P xs all = each_after-given P [] xs all
