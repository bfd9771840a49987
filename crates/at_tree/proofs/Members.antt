-- Lemmas on what a list has.
use Rattle.std.proofs.Common.{◌≡◌, ℕ, zero, suc, ◌<◌, List, [], ◌∷◌, ◌++◌, length, get_or, Contains, ◌⊎◌, inl, inr, ⊎_elim, refl, ap, ◌∙◌, arith, length-append}

-- nothing is in the empty list
pub none_in : {X : Type 0} (x : X) → ¬ Contains [] x
none_in x h = absurd (omega (arith, h.1))

-- the first of a list is in it
pub in_here : {X : Type 0} (x : X) (xs : List X) → Contains (x ∷ xs) x
in_here x xs = (0, (omega arith), refl)

-- and so is what stands after the first
pub in_there : {X : Type 0} (x : X) (xs : List X) (y : X) → Contains xs y → Contains (x ∷ xs) y
in_there x xs y h = (suc h.0, (omega (arith, h.1)), h.2)

-- by the place in the list
at_cons : {X : Type 0} (x : X) (xs : List X) (y : X) (k : ℕ) → k < length (x ∷ xs) → get_or (x ∷ xs) k y ≡ y → (x ≡ y) ⊎ Contains xs y
at_cons x xs y zero lt e = inl e
at_cons x xs y (suc k) lt e = inr (k, (omega (arith, lt)), e)

-- the first, or one after it
pub in_cons : {X : Type 0} (x : X) (xs : List X) (y : X) → Contains (x ∷ xs) y → (x ≡ y) ⊎ Contains xs y
in_cons x xs y h = at_cons x xs y h.0 h.1 h.2

-- what stands before and after an element
pub split_at : {X : Type 0} (xs : List X) (x : X) → Contains xs x → (prefix : List X) × (suffix : List X) × (xs ≡ prefix ++ x ∷ suffix)
split_at [] x h = absurd (none_in x h)
split_at (y ∷ ys) x h =
    ⊎_elim
    (λ e. ([], ys, ap (λ z. z ∷ ys) e))
    (λ later. let p = split_at ys x later in (y ∷ p.0, p.1, ap (λ zs. y ∷ zs) p.2))
    (in_cons y ys x h)

-- an element of a list with one more at its end is the last, or has its place in the list before
pub split_push : {X : Type 0} (xs : List X) (x : X) (prefix : List X) (y : X) (suffix : List X) → xs ++ x ∷ [] ≡ prefix ++ y ∷ suffix → ((xs ≡ prefix) × (x ≡ y)) ⊎ ((rest : List X) × (xs ≡ prefix ++ y ∷ rest))
split_push [] x [] y suffix e = inl (refl, cc)
split_push [] x (f ∷ prefix) y suffix e = absurd (omega (arith, ap length e, length-append prefix (y ∷ suffix)))
split_push (z ∷ zs) x [] y suffix e = let h : z ≡ y = cc in inr (zs, ap (λ w. w ∷ zs) h)
split_push (z ∷ zs) x (f ∷ prefix) y suffix e =
    let h : z ≡ f = cc in
    let t : zs ++ x ∷ [] ≡ prefix ++ y ∷ suffix = cc in
    ⊎_elim
    (λ p. inl ((ap (λ w. w ∷ zs) h ∙ ap (λ ws. f ∷ ws) p.0), p.1))
    (λ p. inr (p.0, (ap (λ w. w ∷ zs) h ∙ ap (λ ws. f ∷ ws) p.1)))
    (split_push zs x prefix y suffix t)

-- an element is where it stands
pub in_middle : {X : Type 0} (prefix : List X) (x : X) (suffix : List X) → Contains (prefix ++ x ∷ suffix) x
in_middle [] x suffix = in_here x suffix
in_middle (f ∷ prefix) x suffix = in_there f (prefix ++ x ∷ suffix) x (in_middle prefix x suffix)
