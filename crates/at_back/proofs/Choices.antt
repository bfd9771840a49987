-- Words of a table that are looked for one after another.
use Rattle.std.proofs.Common.{◌≡◌, ◌∙◌, ap, refl, sym, ℕ, zero, suc, ◌+◌, ◌<◌, ◌≤◌, arith, List, [], ◌∷◌, length, drop, get_or, add-one, map, slice_get, Bool, true, false, Option, Some, None}
use Rattle.std.proofs.lemmas.Option.{same_Some, slice_get-get_or}
use Rattle.at_script.specs.Literals.{◌>>=◌}
use Rattle.at_text.specs.Readers.{Reader, Row, nothing, past, chosen, choice}
use Rattle.at_back.specs.Left.{kept}

-- the rows of words that stand alone
abbrev pub alone : {W : Type 0} → (W → List ℕ) → List W → List (Row W)
alone word ws = map (λ w. (word w, nothing w)) ws

module _ {W A : Type 0} where
  -- the word first, and then what follows it
  pub choice_then : (word : W → List ℕ) (rest : W → Reader A) (ws : List W) (text : List ℕ)
      → (choice (alone word ws) text >>= (λ found. rest found.0 found.1)) ≡ choice (map (λ w. (word w, rest w)) ws) text
  unfolding nothing
  choice_then word rest [] text = refl
  choice_then word rest (w ∷ ws) text =
      elim (past (word w) text) as (λ o. (chosen o (nothing w) (choice (alone word ws) text) >>= (λ found. rest found.0 found.1)) ≡ chosen o (rest w) (choice (map (λ v. (word v, rest v)) ws) text)) [
        | None ↦ choice_then word rest ws text
        | Some t ↦ refl
      ]

  -- no word of the table stands there
  pub table_none : (word : W → List ℕ) (rest : W → Reader A) (ws : List W) (text : List ℕ) → choice (alone word ws) text ≡ None → None ≡ choice (map (λ w. (word w, rest w)) ws) text
  table_none word rest ws text h =
      let next : W × List ℕ → Option (A × List ℕ) = λ found. rest found.0 found.1 in
      sym (ap (λ o. o >>= next) h) ∙ choice_then word rest ws text

  -- one does
  pub table_some : (word : W → List ℕ) (rest : W → Reader A) (ws : List W) (text : List ℕ) (w : W) (left : List ℕ) → choice (alone word ws) text ≡ Some (w, left) → rest w left ≡ choice (map (λ w. (word w, rest w)) ws) text
  table_some word rest ws text w left h =
      let next : W × List ℕ → Option (A × List ℕ) = λ found. rest found.0 found.1 in
      sym (ap (λ o. o >>= next) h) ∙ choice_then word rest ws text

module _ {W : Type 0} (word : W → List ℕ) where
  -- the word at this place stands at the front
  pub word_here : (ws : List W) (i : ℕ) (w : W) (text left : List ℕ) → slice_get ws i ≡ Some w → past (word w) text ≡ Some left → choice (alone word (drop i ws)) text ≡ Some (w, left)
  unfolding nothing
  word_here [] i w text left at h = cc
  word_here (v ∷ ws) zero w text left at h =
      let same : v ≡ w = same_Some v w at in
      ap (λ u. chosen (past (word u) text) (nothing u) (choice (alone word ws) text)) same ∙ ap (λ o. chosen o (nothing w) (choice (alone word ws) text)) h
  word_here (v ∷ ws) (suc i) w text left at h = word_here ws i w text left at h

  -- it doesn't
  pub word_not_here : (ws : List W) (i : ℕ) (w : W) (text : List ℕ) → slice_get ws i ≡ Some w → past (word w) text ≡ None → choice (alone word (drop i ws)) text ≡ choice (alone word (drop (suc i) ws)) text
  word_not_here [] i w text at h = cc
  word_not_here (v ∷ ws) zero w text at h =
      let same : v ≡ w = same_Some v w at in
      ap (λ u. chosen (past (word u) text) (nothing u) (choice (alone word ws) text)) same ∙ ap (λ o. chosen o (nothing w) (choice (alone word ws) text)) h
  word_not_here (v ∷ ws) (suc i) w text at h = word_not_here ws i w text at h

  pub no_word : (ws : List W) (i : ℕ) (text : List ℕ) → length ws ≤ i → choice (alone word (drop i ws)) text ≡ None
  no_word [] zero text h = refl
  no_word [] (suc i) text h = refl
  no_word (v ∷ ws) zero text h = absurd (omega arith)
  no_word (v ∷ ws) (suc i) text h = no_word ws i text (omega arith)

  -- The same, of what a loop over the table knows

  module _ (ws items : List W) (i : ℕ) (d : W) (t text left first : List ℕ) (found : Bool) (same : items ≡ ws) (within : i < length items) (is : t ≡ word (get_or items i d)) (told : kept found left ≡ past t text) (before : choice (alone word (drop i ws)) text ≡ choice (alone word ws) first) where
    at_place : slice_get ws i ≡ Some (get_or items i d)
    at_place = ap (λ l. slice_get l i) (sym same) ∙ slice_get-get_or items i d within

    pub found_word : found ≡ true → Some (get_or items i d, left) ≡ choice (alone word ws) first
    found_word e =
        let h : past (word (get_or items i d)) text ≡ Some left = ap (λ w. past w text) (sym is) ∙ sym told ∙ ap (λ b. kept b left) e in
        sym (word_here ws i (get_or items i d) text left at_place h) ∙ before

    pub other_word : found ≡ false → left ≡ text → choice (alone word (drop (i + 1) ws)) left ≡ choice (alone word ws) first
    other_word e kept_as =
        let h : past (word (get_or items i d)) text ≡ None = ap (λ w. past w text) (sym is) ∙ sym told ∙ ap (λ b. kept b left) e in
        ap (λ l. choice (alone word (drop (i + 1) ws)) l) kept_as ∙ ap (λ n. choice (alone word (drop n ws)) text) (add-one i)
        ∙ sym (word_not_here ws i (get_or items i d) text at_place h) ∙ before
