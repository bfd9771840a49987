-- What fails for each use of a line fails for the class or the function that it declares: so a line without offence gives
-- each a number below the limit, and no class the name of a function.
use Rattle.std.proofs.Common.{◌≡◌, ◌∙◌, ap, refl, sym, subst, ℕ, ◌<◌, List, [], ◌∷◌, length, Bool, true, false, cond, not, ◌||◌, ◌&&◌, Option, Some, None, is_none, bytes_eq, codes, inl, inr}
use Rattle.std.specs.List.{list_any}
use Rattle.std.specs.Option.{option_map, option_and_then}
use Rattle.std.proofs.lemmas.Bool.{cases_Bool, leb-false}
use Rattle.std.proofs.lemmas.Slice.Eq.{bytes_eq-Decides}
use Rattle.at_value.specs.Widths as widths
use Rattle.at_script.specs.Words.{is_identifier, is_free}
use Rattle.at_script.specs.Shapes.{Said, class, func, are_bases}
use Rattle.at_name.specs.Texts.{place_of}
use Rattle.at_script.specs.Texts.{declared_by, declared_name, number_in, meaning_by}
use Rattle.at_script.specs.Uses.{Use, subject, body}
use Rattle.at_script.specs.declared.fault.Cause.TheVariants as causes
use Rattle.at_script.specs.Lines.{is_skipped, words_in}
use Rattle.at_script.specs.State.{State}
use Rattle.at_script.proofs.Limits.{none_holds, no_limit}
use Rattle.at_script.specs.Pieces.{two_parts}
use Rattle.at_script.specs.Causes.{has_form, is_one_too_many, is_misnamed, means_function, uses_said, uses_in, said_in, are_words, is_first, has_cause, cause_of}

first-false : (a b : Bool) → (a || b) ≡ false → a ≡ false
first-false true b h = cc
first-false false b h = refl

module _ (p : Use → Bool) (name : List ℕ) (rest : List (List ℕ)) where
  -- what the words after `class` say, where the first is an identifier and the others are bases, or not
  abbrev class_said : Bool → Bool → Option Said
  class_said identifier bases =
      option_map (λ (p : List ℕ × List (List ℕ)). class p.0 p.1) (option_and_then (λ (n : List ℕ). cond bases (Some (n, rest)) None) (cond identifier (Some name) None))

  IsBelow : Bool → Bool → Type 0
  IsBelow identifier bases =
      is_none (class_said identifier bases) ≡ false → list_any p (uses_said (class_said identifier bases)) ≡ false → p (subject name) ≡ false

  below : (identifier bases : Bool) → IsBelow identifier bases
  unfolding IsBelow
  below true true = λ form none. first-false _ _ none
  below true false = λ form none. absurd cc
  below false bases = λ form none. absurd cc

  class_named : has_form (codes "class" ∷ name ∷ rest) ≡ false → list_any p (uses_said (said_in (codes "class" ∷ name ∷ rest))) ≡ false → p (subject name) ≡ false
  unfolding IsBelow
  class_named form limit = below (is_identifier name) (are_bases rest) form limit

-- the words of a line
class_in : (p : Use → Bool) (words : List (List ℕ)) → has_form words ≡ false → list_any p (uses_said (said_in words)) ≡ false → (w : List ℕ) → declared_by (codes "class") words ≡ Some w → p (subject w) ≡ false
class_in p [] form limit w e = cc
class_in p (word ∷ []) form limit w e =
    elim (bytes_eq word (codes "class")) as (λ b. cond b None None ≡ Some w → p (subject w) ≡ false) [ true ↦ λ e. absurd cc | false ↦ λ e. absurd cc ] e
class_in p (word ∷ name ∷ rest) form limit w e =
    elim (cases_Bool (bytes_eq word (codes "class"))) [
      | inl is ↦
          let same = (bytes_eq-Decides word (codes "class")).0 is in
          let Form : List ℕ → Type 0 = λ k. has_form (k ∷ name ∷ rest) ≡ false in
          let Limit : List ℕ → Type 0 = λ k. list_any p (uses_said (said_in (k ∷ name ∷ rest))) ≡ false in
          let low = class_named p name rest (subst Form same form) (subst Limit same limit) in
          let there : cond (is_identifier name && is_free name) (Some name) None ≡ Some w = sym (ap (λ b. cond b (cond (is_identifier name && is_free name) (Some name) None) None) is) ∙ e in
          named_is w name (is_identifier name && is_free name) there low
      | inr other ↦ absurd (let none : None ≡ Some w = sym (ap (λ b. cond b (declared_name (name ∷ rest)) None) other) ∙ e in cc)
    ]
  where
    named_is : (w name : List ℕ) (b : Bool) → cond b (Some name) None ≡ Some w → p (subject name) ≡ false → p (subject w) ≡ false
    named_is w name true e low = let same : name ≡ w = cc in let P : List ℕ → Type 0 = λ n. p (subject n) ≡ false in subst P same low
    named_is w name false e low = absurd cc

-- the words of a line that is skipped declare nothing
skipped_none : (words : List (List ℕ)) → is_skipped words ≡ true → declared_by (codes "class") words ≡ None
skipped_none [] is = refl
skipped_none ([] ∷ rest) is = refl
skipped_none ((b ∷ bs) ∷ rest) is =
    elim (cases_Bool (bytes_eq (b ∷ bs) (codes "class"))) [
      | inl same ↦
          let word = (bytes_eq-Decides (b ∷ bs) (codes "class")).0 same in
          let no : false ≡ true = subst (λ (w : List ℕ). is_skipped (w ∷ rest) ≡ true) word is in
          absurd cc
      | inr other ↦ ap (λ c. cond c (declared_name rest) None) other
    ]

are-two : (first second : List ℕ) (words : List (List ℕ)) → are_words first second (two_parts words) ≡ true → words ≡ first ∷ second ∷ []
are-two first second [] is = cc
are-two first second (a ∷ []) is = cc
are-two first second (a ∷ b ∷ []) is = are (bytes_eq a first) (bytes_eq b second) refl refl is
  where
    are : (p q : Bool) → bytes_eq a first ≡ p → bytes_eq b second ≡ q → (p && q) ≡ true → a ∷ b ∷ [] ≡ first ∷ second ∷ []
    are true true h k is =
        let one = (bytes_eq-Decides a first).0 h in
        let two = (bytes_eq-Decides b second).0 k in
        cc
    are true false h k is = cc
    are false q h k is = cc
are-two first second (a ∷ b ∷ c ∷ rest) is = cc

-- the words of the header declare nothing
header_none : (words : List (List ℕ)) → not (are_words (codes "attrs") (codes "1") (two_parts words)) ≡ false → declared_by (codes "class") words ≡ None
header_none words is =
    let same = are-two (codes "attrs") (codes "1") words (un-not (are_words (codes "attrs") (codes "1") (two_parts words)) is) in
    subst (λ ws. declared_by (codes "class") ws ≡ None) (sym same) refl
  where
    un-not : (b : Bool) → not b ≡ false → b ≡ true
    un-not true h = refl
    un-not false h = cc

or-second : (a b : Bool) → (a || b) ≡ false → b ≡ false
or-second true b h = cc
or-second false b h = h

-- a line without offence isn't a wrong header, has its form, and declares nothing past a limit

no_header : (s : State) (line : List ℕ) → cause_of s line ≡ None → has_cause s line causes.Header ≡ false
no_header s line clean =
    none_holds (has_cause s line) (causes.Byte ∷ []) causes.Header (causes.Word ∷ causes.Place ∷ causes.Form ∷ causes.Number ∷ causes.Name ∷ causes.Class ∷ causes.Func ∷ causes.Limit ∷ causes.End ∷ []) clean

no_form : (s : State) (line : List ℕ) → cause_of s line ≡ None → has_cause s line causes.Form ≡ false
no_form s line clean =
    none_holds (has_cause s line) (causes.Byte ∷ causes.Header ∷ causes.Word ∷ causes.Place ∷ []) causes.Form (causes.Number ∷ causes.Name ∷ causes.Class ∷ causes.Func ∷ causes.Limit ∷ causes.End ∷ []) clean

none_too_many : (s : State) (line : List ℕ) → cause_of s line ≡ None → list_any (is_one_too_many s.texts) (uses_in s line) ≡ false
none_too_many s line clean = or-second _ _ (first-false _ _ (first-false _ _ (no_limit s line clean)))

-- what holds of the words where they are read, by whether they are
read_by : (first skipped : Bool) (p : Use → Bool) (words : List (List ℕ)) (w : List ℕ)
    → (first ≡ true → declared_by (codes "class") words ≡ None)
    → (skipped ≡ true → declared_by (codes "class") words ≡ None)
    → has_form (cond (first || skipped) [] words) ≡ false
    → list_any p (uses_said (said_in (cond (first || skipped) [] words))) ≡ false
    → declared_by (codes "class") words ≡ Some w → p (subject w) ≡ false
read_by true skipped p words w header skip form limit e = absurd (let none : None ≡ Some w = sym (header refl) ∙ e in cc)
read_by false true p words w header skip form limit e = absurd (let none : None ≡ Some w = sym (skip refl) ∙ e in cc)
read_by false false p words w header skip form limit e = class_in p words form limit w e

-- what fails for each use of a line without offence
class_used : (p : Use → Bool) (s : State) (line : List ℕ) → cause_of s line ≡ None → list_any p (uses_in s line) ≡ false → (w : List ℕ) → declared_by (codes "class") (words_in line) ≡ Some w → p (subject w) ≡ false
class_used p s line clean none w e =
    let words = words_in line in
    let header = no_header s line clean in
    let at_first : is_first s.stage ≡ true → declared_by (codes "class") words ≡ None =
    λ is. header_none words (sym (ap (λ b. b && not (are_words (codes "attrs") (codes "1") (two_parts words))) is) ∙ header) in
    read_by (is_first s.stage) (is_skipped words) p words w at_first (skipped_none words) (no_form s line clean) none e

-- the class that a line without offence declares has a small number
pub class_of_line : (s : State) (line : List ℕ) → cause_of s line ≡ None → (w : List ℕ) → declared_by (codes "class") (words_in line) ≡ Some w → number_in s.texts.classes w < widths.classes
class_of_line s line clean w e = leb-false _ _ (class_used (is_one_too_many s.texts) s line clean (none_too_many s line clean) w e)

no_function : (o p : Option ℕ) → means_function (meaning_by o p) ≡ false → o ≡ None
no_function None p h = refl
no_function (Some n) p h = cc

-- and isn't called as a function
pub class_no_function : (s : State) (line : List ℕ) → cause_of s line ≡ None → (w : List ℕ) → declared_by (codes "class") (words_in line) ≡ Some w → place_of w s.texts.funcs ≡ None
class_no_function s line clean w e =
    let name = none_holds (has_cause s line) (causes.Byte ∷ causes.Header ∷ causes.Word ∷ causes.Place ∷ causes.Form ∷ causes.Number ∷ []) causes.Name (causes.Class ∷ causes.Func ∷ causes.Limit ∷ causes.End ∷ []) clean in
    no_function (place_of w s.texts.funcs) (place_of w s.texts.classes) (or-second _ _ (class_used (is_misnamed (length s.bodies) s.texts) s line clean name w e))

-- The same of a line that declares a function.

module _ (p : Use → Bool) (name : List ℕ) where
  abbrev func_said : Bool → Option Said
  func_said identifier = option_map func (cond identifier (Some name) None)

  IsFuncBelow : Bool → Type 0
  IsFuncBelow identifier =
      is_none (func_said identifier) ≡ false → list_any p (uses_said (func_said identifier)) ≡ false → p (body name) ≡ false

  func_low : (identifier : Bool) → IsFuncBelow identifier
  unfolding IsFuncBelow
  func_low true = λ form none. first-false _ _ none
  func_low false = λ form none. absurd cc

  func_named : has_form (codes "func" ∷ name ∷ []) ≡ false → list_any p (uses_said (said_in (codes "func" ∷ name ∷ []))) ≡ false → p (body name) ≡ false
  unfolding IsFuncBelow
  func_named form limit = func_low (is_identifier name) form limit

func_words : (p : Use → Bool) (name : List ℕ) (rest : List (List ℕ)) → has_form (codes "func" ∷ name ∷ rest) ≡ false → list_any p (uses_said (said_in (codes "func" ∷ name ∷ rest))) ≡ false → p (body name) ≡ false
func_words p name [] form limit = func_named p name form limit
func_words p name (word ∷ rest) form limit = absurd cc

-- the words of a line
func_in : (p : Use → Bool) (words : List (List ℕ)) → has_form words ≡ false → list_any p (uses_said (said_in words)) ≡ false → (w : List ℕ) → declared_by (codes "func") words ≡ Some w → p (body w) ≡ false
func_in p [] form limit w e = cc
func_in p (word ∷ []) form limit w e =
    elim (bytes_eq word (codes "func")) as (λ b. cond b None None ≡ Some w → p (body w) ≡ false) [ true ↦ λ e. absurd cc | false ↦ λ e. absurd cc ] e
func_in p (word ∷ name ∷ rest) form limit w e =
    elim (cases_Bool (bytes_eq word (codes "func"))) [
      | inl is ↦
          let same = (bytes_eq-Decides word (codes "func")).0 is in
          let Form : List ℕ → Type 0 = λ k. has_form (k ∷ name ∷ rest) ≡ false in
          let Limit : List ℕ → Type 0 = λ k. list_any p (uses_said (said_in (k ∷ name ∷ rest))) ≡ false in
          let low = func_words p name rest (subst Form same form) (subst Limit same limit) in
          let there : cond (is_identifier name && is_free name) (Some name) None ≡ Some w = sym (ap (λ b. cond b (cond (is_identifier name && is_free name) (Some name) None) None) is) ∙ e in
          named_is w name (is_identifier name && is_free name) there low
      | inr other ↦ absurd (let none : None ≡ Some w = sym (ap (λ b. cond b (declared_name (name ∷ rest)) None) other) ∙ e in cc)
    ]
  where
    named_is : (w name : List ℕ) (b : Bool) → cond b (Some name) None ≡ Some w → p (body name) ≡ false → p (body w) ≡ false
    named_is w name true e low = let same : name ≡ w = cc in let P : List ℕ → Type 0 = λ n. p (body n) ≡ false in subst P same low
    named_is w name false e low = absurd cc

-- the words of a line that is skipped declare nothing
skipped_no_func : (words : List (List ℕ)) → is_skipped words ≡ true → declared_by (codes "func") words ≡ None
skipped_no_func [] is = refl
skipped_no_func ([] ∷ rest) is = refl
skipped_no_func ((b ∷ bs) ∷ rest) is =
    elim (cases_Bool (bytes_eq (b ∷ bs) (codes "func"))) [
      | inl same ↦
          let word = (bytes_eq-Decides (b ∷ bs) (codes "func")).0 same in
          let no : false ≡ true = subst (λ (w : List ℕ). is_skipped (w ∷ rest) ≡ true) word is in
          absurd cc
      | inr other ↦ ap (λ c. cond c (declared_name rest) None) other
    ]

-- the words of the header declare nothing
header_no_func : (words : List (List ℕ)) → not (are_words (codes "attrs") (codes "1") (two_parts words)) ≡ false → declared_by (codes "func") words ≡ None
header_no_func words is =
    let same = are-two (codes "attrs") (codes "1") words (un-not (are_words (codes "attrs") (codes "1") (two_parts words)) is) in
    subst (λ ws. declared_by (codes "func") ws ≡ None) (sym same) refl
  where
    un-not : (b : Bool) → not b ≡ false → b ≡ true
    un-not true h = refl
    un-not false h = cc

-- what holds of the words where they are read, by whether they are
func_read_by : (first skipped : Bool) (p : Use → Bool) (words : List (List ℕ)) (w : List ℕ)
    → (first ≡ true → declared_by (codes "func") words ≡ None)
    → (skipped ≡ true → declared_by (codes "func") words ≡ None)
    → has_form (cond (first || skipped) [] words) ≡ false
    → list_any p (uses_said (said_in (cond (first || skipped) [] words))) ≡ false
    → declared_by (codes "func") words ≡ Some w → p (body w) ≡ false
func_read_by true skipped p words w header skip form limit e = absurd (let none : None ≡ Some w = sym (header refl) ∙ e in cc)
func_read_by false true p words w header skip form limit e = absurd (let none : None ≡ Some w = sym (skip refl) ∙ e in cc)
func_read_by false false p words w header skip form limit e = func_in p words form limit w e

-- the function that a line without offence declares has a small number
pub func_of_line : (s : State) (line : List ℕ) → cause_of s line ≡ None → (w : List ℕ) → declared_by (codes "func") (words_in line) ≡ Some w → number_in s.texts.funcs w < widths.functions
func_of_line s line clean w e =
    let words = words_in line in
    let header = no_header s line clean in
    let at_first : is_first s.stage ≡ true → declared_by (codes "func") words ≡ None =
    λ is. header_no_func words (sym (ap (λ b. b && not (are_words (codes "attrs") (codes "1") (two_parts words))) is) ∙ header) in
    leb-false _ _ (func_read_by (is_first s.stage) (is_skipped words) (is_one_too_many s.texts) words w at_first (skipped_no_func words) (no_form s line clean) (none_too_many s line clean) e)
