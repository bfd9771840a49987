-- No line declares a reserved word.
use Rattle.std.proofs.Common.{◌≡◌, ◌∙◌, ap, refl, sym, ℕ, List, [], ◌∷◌, ◌++◌, codes, Bool, true, false, cond, not, ◌||◌, ◌&&◌, Option, Some, None, is_some, bytes_eq}
use Rattle.std.specs.List.{cons_option}
use Rattle.std.proofs.lemmas.Bool.{false_from_ne_true, both_ways}
use Rattle.std.proofs.lemmas.Slice.Eq.{bytes_eq-Decides}
use Rattle.at_name.specs.Texts.{place_of}
use Rattle.at_script.specs.Lines.{words_in}
use Rattle.at_script.specs.Words.{is_identifier, is_free, is_short, is_register, is_object}
use Rattle.at_script.specs.Texts.{with_text, with_texts, declared_name, declared_by, declared_in}
use Rattle.at_script.proofs.Numbered.{place_of-other}

reserved : (short none register object : Bool) → register ≡ true → (short && not (none || register || object)) ≡ false
reserved false none register object h = refl
reserved true true register object h = refl
reserved true false true object h = refl
reserved true false false object h = absurd cc

pub unfree : (w : List ℕ) → is_register w ≡ true → is_free w ≡ false
unfree w h = reserved (is_short w) (bytes_eq w (codes "none")) (is_register w) (is_object w) h

form_if : (name w : List ℕ) (identifier free : Bool) → is_identifier name ≡ identifier → is_free name ≡ free → cond (identifier && free) (Some name) None ≡ Some w → (is_identifier w ≡ true) × (is_free w ≡ true)
form_if name w true true form is e = let same : name ≡ w = cc in (sym (ap is_identifier same) ∙ form, sym (ap is_free same) ∙ is)
form_if name w false free form is e = absurd cc
form_if name w true false form is e = absurd cc

name_form : (words : List (List ℕ)) (w : List ℕ) → declared_name words ≡ Some w → (is_identifier w ≡ true) × (is_free w ≡ true)
name_form [] w e = absurd cc
name_form (name ∷ rest) w e = form_if name w (is_identifier name) (is_free name) refl refl e

-- what a line declares is an identifier that isn't reserved
pub declared_form : (key : List ℕ) (words : List (List ℕ)) (w : List ℕ) → declared_by key words ≡ Some w → (is_identifier w ≡ true) × (is_free w ≡ true)
declared_form key [] w e = absurd cc
declared_form key (word ∷ words) w e = by_keyword (bytes_eq word key) e
  where
    by_keyword : (b : Bool) → cond b (declared_name words) None ≡ Some w → (is_identifier w ≡ true) × (is_free w ≡ true)
    by_keyword true e = name_form words w e
    by_keyword false e = absurd cc

module _ (r : List ℕ) (reserved : is_free r ≡ false) where
  other : (w : List ℕ) → is_free w ≡ true → bytes_eq r w ≡ false
  other w free = false_from_ne_true (bytes_eq r w) (λ same. both_ways (is_free r) reserved (ap is_free ((bytes_eq-Decides r w).0 same) ∙ free))

  absent_with : (texts : List (List ℕ)) (w : List ℕ) → is_free w ≡ true → place_of r texts ≡ None → place_of r (with_text texts w) ≡ None
  absent_with texts w free absent = elim (is_some (place_of w texts)) as (λ b. place_of r (cond b texts (texts ++ w ∷ [])) ≡ None) [
    | true ↦ absent
    | false ↦ place_of-other r w texts (other w free) ∙ absent
  ]

  -- a reserved word stays out of the texts that lines declare
  pub reserved_absent : (key : List ℕ) (lines : List (List ℕ)) (texts : List (List ℕ)) → place_of r texts ≡ None → place_of r (with_texts texts (declared_in key lines)) ≡ None
  reserved_absent key [] texts absent = absent
  reserved_absent key (line ∷ lines) texts absent = by_declared (declared_by key (words_in line)) (λ w e. (declared_form key (words_in line) w e).1) (λ more none. reserved_absent key lines more none)
    where
      by_declared : (o : Option (List ℕ)) → ((w : List ℕ) → o ≡ Some w → is_free w ≡ true)
          → ((more : List (List ℕ)) → place_of r more ≡ None → place_of r (with_texts more (declared_in key lines)) ≡ None)
          → place_of r (with_texts texts (cons_option o (declared_in key lines))) ≡ None
      by_declared None free next = next texts absent
      by_declared (Some w) free next = next (with_text texts w) (absent_with texts w (free w refl) absent)
