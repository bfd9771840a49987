-- A word is a keyword of its own length.
use Rattle.std.proofs.Common.{◌≡◌, ◌∙◌, ap, refl, sym, ℕ, ◌==◌, List, [], ◌∷◌, length, Bool, false, cond, Some, None, bytes_eq, inl, inr}
use Rattle.std.specs.Option.{option_map}
use Rattle.std.specs.List.{find, filter}
use Rattle.std.proofs.lemmas.Bool.{cases_Bool, false_from_ne_true, eqb-false}
use Rattle.std.proofs.lemmas.Slice.Eq.{bytes_eq-Decides}
use Rattle.at_script.specs.declared.keyword.Keyword.{Keyword}
use Rattle.at_script.specs.Keywords.{named, of_length, keyword_of, all_keywords}

module _ (word : List ℕ) (n : ℕ) (long : length word ≡ n) where
  abbrev is_named : List ℕ × Keyword → Bool
  is_named row = bytes_eq word row.0

  abbrev is_long : List ℕ × Keyword → Bool
  is_long row = length row.0 == n

  -- a word isn't one of another length
  unnamed : (row : List ℕ × Keyword) → is_long row ≡ false → is_named row ≡ false
  unnamed row other =
      false_from_ne_true (is_named row) (λ same. eqb-false (length row.0) n other (sym (ap length ((bytes_eq-Decides word row.0).0 same)) ∙ long))

  same_found : (rows : List (List ℕ × Keyword)) → find is_named (filter is_long rows) ≡ find is_named rows
  same_found [] = refl
  same_found (row ∷ rows) =
      elim (cases_Bool (is_long row)) [
        | inl e ↦ ap (λ b. find is_named (cond b (row ∷ filter is_long rows) (filter is_long rows))) e ∙ ap (cond (is_named row) (Some row)) (same_found rows)
        | inr e ↦
            ap (λ b. find is_named (cond b (row ∷ filter is_long rows) (filter is_long rows))) e
            ∙ (same_found rows ∙ sym (ap (λ b. cond b (Some row) (find is_named rows)) (unnamed row e)))
      ]

  pub named_long : named word (of_length n) ≡ keyword_of word
  named_long = ap (option_map (λ (row : List ℕ × Keyword). row.1)) (same_found all_keywords)

-- a word of no keyword's length is none
pub no_keyword : (word : List ℕ) → ((n : ℕ) → length word ≡ n → named word (of_length n) ≡ None) → keyword_of word ≡ None
no_keyword word none = sym (named_long word (length word) refl) ∙ none (length word) refl
