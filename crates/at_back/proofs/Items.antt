-- Lists that are read one thing after another.
use Rattle.std.proofs.Common.{◌≡◌, ◌∙◌, ap, refl, sym, ℕ, zero, suc, ◌+◌, ◌<◌, ◌≤◌, arith, List, [], ◌∷◌, ◌++◌, length, append_assoc, append-nil, Bool, true, false, cond, Option, Some, None, true≢false}
use Rattle.std.specs.Option.{option_map}
use Rattle.at_script.specs.Literals.{◌>>=◌}
use Rattle.at_text.specs.Readers.{Reader, nothing, up_to, numbered}

-- the things so far, and what is read after them
abbrev pub onto : {A : Type 0} → List A → Option (List A × List ℕ) → Option (List A × List ℕ)
onto {A} items o = option_map (λ (p : List A × List ℕ). (items ++ p.0, p.1)) o

module _ {A : Type 0} (more : List ℕ → Bool) (r : Reader A) (none : more [] ≡ false) (shorter : (t : List ℕ) (p : A × List ℕ) → r t ≡ Some p → length p.1 < length t) where
  abbrev next : ℕ → ℕ → A × List ℕ → Option (List A × List ℕ)
  next n k first = option_map (λ (rest : List A × List ℕ). (first.0 ∷ rest.0, rest.1)) (up_to n more (λ _. r) (k + 1) first.1)

  ended : (n k : ℕ) (t : List ℕ) → more t ≡ false → up_to n more (λ _. r) k t ≡ Some ([], t)
  unfolding nothing
  ended zero k t h = refl
  ended (suc n) k t h = ap (λ b. cond b (r t >>= next n k) (Some ([], t))) h

  same_next : (n m k j : ℕ) (o : Option (A × List ℕ)) → ((p : A × List ℕ) → o ≡ Some p → up_to n more (λ _. r) (k + 1) p.1 ≡ up_to m more (λ _. r) (j + 1) p.1) → (o >>= next n k) ≡ (o >>= next m j)
  same_next n m k j None same = refl
  same_next n m k j (Some p) same = ap (option_map (λ (rest : List A × List ℕ). (p.0 ∷ rest.0, rest.1))) (same p refl)

  fuel : (n m k j : ℕ) (t : List ℕ) → length t ≤ n → length t ≤ m → up_to n more (λ _. r) k t ≡ up_to m more (λ _. r) j t
  unfolding nothing
  fuel zero zero k j t h g = refl
  fuel zero (suc m) k j [] h g = sym (ended (suc m) j [] none)
  fuel zero (suc m) k j (b ∷ t) h g = absurd (omega arith)
  fuel (suc n) zero k j [] h g = ended (suc n) k [] none
  fuel (suc n) zero k j (b ∷ t) h g = absurd (omega arith)
  fuel (suc n) (suc m) k j t h g =
      ap (λ o. cond (more t) o (Some ([], t)))
      (same_next n m k j (r t) (λ p e. let less = shorter t p e in fuel n m (k + 1) (j + 1) p.1 (omega arith) (omega arith)))

  abbrev all : Reader (List A)
  all = numbered more (λ _. r)

  pub all_ended : (t : List ℕ) → more t ≡ false → all t ≡ Some ([], t)
  unfolding numbered
  all_ended t h = ended (length t) 0 t h

  -- the first, and those after it
  pub all_next : (t : List ℕ) (p : A × List ℕ) → more t ≡ true → r t ≡ Some p → all t ≡ onto (p.0 ∷ []) (all p.1)
  unfolding numbered
  all_next [] p h e = absurd (true≢false (sym h ∙ none))
  all_next (b ∷ t) p h e =
      let less = shorter (b ∷ t) p e in
      ap (λ c. cond c (r (b ∷ t) >>= next (length t) 0) (Some ([], b ∷ t))) h ∙ ap (λ o. o >>= next (length t) 0) e
      ∙ ap (option_map (λ (rest : List A × List ℕ). (p.0 ∷ rest.0, rest.1))) (fuel (length t) (length p.1) 1 0 p.1 (omega arith) (omega arith))

  -- one of them isn't there
  pub all_wrong : (t : List ℕ) → more t ≡ true → r t ≡ None → all t ≡ None
  unfolding numbered
  all_wrong [] h e = absurd (true≢false (sym h ∙ none))
  all_wrong (b ∷ t) h e = ap (λ c. cond c (r (b ∷ t) >>= next (length t) 0) (Some ([], b ∷ t))) h ∙ ap (λ o. o >>= next (length t) 0) e

  module _ (items : List A) (t : List ℕ) where
    pub onto_next : (p : A × List ℕ) → more t ≡ true → r t ≡ Some p → onto items (all t) ≡ onto (items ++ p.0 ∷ []) (all p.1)
    onto_next p h e = ap (onto items) (all_next t p h e) ∙ twice (all p.1)
      where
        twice : (o : Option (List A × List ℕ)) → onto items (onto (p.0 ∷ []) o) ≡ onto (items ++ p.0 ∷ []) o
        twice None = refl
        twice (Some q) = ap (λ l. Some (l, q.1)) (sym (append_assoc items (p.0 ∷ []) q.0))

    pub onto_wrong : more t ≡ true → r t ≡ None → onto items (all t) ≡ None
    onto_wrong h e = ap (onto items) (all_wrong t h e)

    pub onto_ended : more t ≡ false → onto items (all t) ≡ Some (items, t)
    onto_ended h = ap (onto items) (all_ended t h) ∙ ap (λ l. Some (l, t)) (append-nil items)

-- nothing so far
pub onto_none : {A : Type 0} (o : Option (List A × List ℕ)) → onto [] o ≡ o
onto_none None = refl
onto_none (Some p) = refl
