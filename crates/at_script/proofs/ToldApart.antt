-- The names of a script are told apart, and its bytes are few.
use Rattle.std.proofs.Common.{◌≡◌, ◌∙◌, ap, refl, sym, subst, ℕ, zero, suc, ◌+◌, ◌≤◌, ◌==◌, arith, List, [], ◌∷◌, ◌++◌, length, slice_get, Bool, true, false, cond, Option, Some, None, is_some, bytes_eq, codes, ◌⊎◌, inl, inr, flat_map}
use Rattle.std.specs.Option.{option_map}
use Rattle.std.specs.List.{AllByRecursion, cons_option, fold, onto_first}
use Rattle.std.proofs.lemmas.Bool.{cases_Bool, false_from_ne_true}
use Rattle.std.proofs.lemmas.Slice.Eq.{bytes_eq-Decides}
use Rattle.at_name.specs.Texts.{place_of, special_texts}
use Rattle.at_script.specs.declared.fault.Cause as cause
use Rattle.at_script.specs.Bytes as bytes
use Rattle.at_script.specs.Limits as limits
use Rattle.at_script.specs.Lines.{lines_of, words_in}
use Rattle.at_script.specs.Words.{is_register}
use Rattle.at_script.specs.Parts.{ScriptParts}
use Rattle.at_script.specs.Texts as texts
use Rattle.at_script.specs.Texts.{Texts, with_text, with_texts, declared_by, declared_in, Meaning, meaning_of}
use Rattle.at_script.specs.Uses as uses
use Rattle.at_script.specs.Uses.{Use, names_in, variables_in, variables_named, if_variable}
use Rattle.at_script.specs.State.{State, before_all}
use Rattle.at_script.specs.Causes.{cause_of, uses_in, read_words}
use Rattle.at_script.specs.Script.{after, first_from, first_offence, if_no_offence, script_in, IsScript}
use Rattle.at_script.specs.Laws.{AreIdentifiers, AreToldApart}
use Rattle.at_script.proofs.DeclaredBelow.{class_no_function}
use Rattle.at_script.proofs.Limits.{after_texts, after_bytes, bytes_within}
use Rattle.at_script.proofs.LineIs.{last_state, none_first, unmapped_none, fold_texts}
use Rattle.at_script.proofs.Numbered.{place_of-other, place_of-push}
use Rattle.at_script.proofs.Registers.{declared_form, reserved_absent}
use Rattle.at_script.proofs.SaidForms.{IsName, HasForm, both_forms, uses_are_names}

-- Texts that are added

last_or_earlier : {A : Type 0} (xs : List A) (y : A) (n : ℕ) (v : A) → slice_get (xs ++ y ∷ []) n ≡ Some v → (slice_get xs n ≡ Some v) ⊎ ((n ≡ length xs) × (y ≡ v))
last_or_earlier [] y zero v e = inr (refl, cc)
last_or_earlier [] y (suc n) v e = absurd cc
last_or_earlier (x ∷ xs) y zero v e = inl e
last_or_earlier (x ∷ xs) y (suc n) v e = elim (last_or_earlier xs y n v e) [ inl h ↦ inl h | inr h ↦ inr (ap suc h.0, h.1) ]

identifiers_push : (texts : List (List ℕ)) (w : List ℕ) → AreIdentifiers texts → IsName w → place_of w texts ≡ None → AreIdentifiers (texts ++ w ∷ [])
identifiers_push texts w are form absent n v e =
    elim (last_or_earlier texts w n v e) [
      | inl h ↦
          let k = are n v h in
          let other = false_from_ne_true (bytes_eq v w) (λ same. let none : None ≡ Some n = sym absent ∙ ap (λ u. place_of u texts) (sym ((bytes_eq-Decides v w).0 same)) ∙ k.1 in cc) in
          (k.0, place_of-other v w texts other ∙ k.1)
      | inr h ↦ (subst IsName h.1 form, subst (λ u. place_of u (texts ++ w ∷ []) ≡ Some n) h.1 (place_of-push w texts absent ∙ ap Some (sym h.0)))
    ]

identifiers_with : (texts : List (List ℕ)) (w : List ℕ) → AreIdentifiers texts → IsName w → AreIdentifiers (with_text texts w)
identifiers_with texts w are form = by_place (place_of w texts) refl
  where
    by_place : (o : Option ℕ) → place_of w texts ≡ o → AreIdentifiers (cond (is_some o) texts (texts ++ w ∷ []))
    by_place (Some n) is = are
    by_place None is = identifiers_push texts w are form is

identifiers_all : (texts words : List (List ℕ)) → AreIdentifiers texts → AllByRecursion IsName words → AreIdentifiers (with_texts texts words)
identifiers_all texts [] are all = are
identifiers_all texts (w ∷ words) are all = identifiers_all (with_text texts w) words (identifiers_with texts w are all.0) all.1

no_identifiers : AreIdentifiers []
no_identifiers n text e = absurd cc

-- what is so of each text that is there or is added is so of each that is there then
module _ (P : List ℕ → Type 0) where
  so_with : (texts : List (List ℕ)) (w : List ℕ) → ((v : List ℕ) → is_some (place_of v texts) ≡ true → P v) → P w → (v : List ℕ) → is_some (place_of v (with_text texts w)) ≡ true → P v
  so_with texts w before h v there = by_place (is_some (place_of w texts)) there
    where
      by_place : (b : Bool) → is_some (place_of v (cond b texts (texts ++ w ∷ []))) ≡ true → P v
      by_place true there = before v there
      by_place false there = elim (cases_Bool (bytes_eq v w)) [
        | inl same ↦ subst P (sym ((bytes_eq-Decides v w).0 same)) h
        | inr other ↦ before v (sym (ap is_some (place_of-other v w texts other)) ∙ there)
      ]

  so_of_all : (texts words : List (List ℕ)) → ((v : List ℕ) → is_some (place_of v texts) ≡ true → P v) → AllByRecursion P words → (v : List ℕ) → is_some (place_of v (with_texts texts words)) ≡ true → P v
  so_of_all texts [] before all = before
  so_of_all texts (w ∷ words) before all = so_of_all (with_text texts w) words (so_with texts w before all.0) all.1

-- Classes and functions

names_declared : (key : List ℕ) (lines : List (List ℕ)) → AllByRecursion IsName (declared_in key lines)
names_declared key [] = tt
names_declared key (line ∷ lines) = by_declared (declared_by key (words_in line)) (λ w e. (declared_form key (words_in line) w e).0) (names_declared key lines)
  where
    by_declared : (o : Option (List ℕ)) → ((w : List ℕ) → o ≡ Some w → IsName w) → AllByRecursion IsName (declared_in key lines) → AllByRecursion IsName (cons_option o (declared_in key lines))
    by_declared None form rest = rest
    by_declared (Some w) form rest = (form w refl, rest)

-- no class that a line declares has the name of a function, where no line has an offence
apart_declared : (number : ℕ) (s : State) (lines : List (List ℕ)) → first_from number s lines ≡ None → AllByRecursion (λ w. place_of w s.texts.funcs ≡ None) (declared_in (codes "class") lines)
apart_declared number s [] none = tt
apart_declared number s (line ∷ lines) none =
    let first = none_first (option_map (λ c. (number, c)) (cause_of s line)) (first_from (suc number) (after s line) lines) none in
    let clean = unmapped_none (λ (c : cause.Cause). (number, c)) (cause_of s line) first.0 in
    let rest = subst (λ (t : Texts). AllByRecursion (λ w. place_of w t.funcs ≡ None) (declared_in (codes "class") lines)) (after_texts s line) (apart_declared (suc number) (after s line) lines first.1) in
    by_declared (declared_by (codes "class") (words_in line)) (class_no_function s line clean) rest
  where
    by_declared : (o : Option (List ℕ)) → ((w : List ℕ) → o ≡ Some w → place_of w s.texts.funcs ≡ None) → AllByRecursion (λ w. place_of w s.texts.funcs ≡ None) (declared_in (codes "class") lines)
        → AllByRecursion (λ w. place_of w s.texts.funcs ≡ None) (cons_option o (declared_in (codes "class") lines))
    by_declared None apart rest = rest
    by_declared (Some w) apart rest = (apart w refl, rest)

-- Names and variables

use_names : (u : Use) → HasForm u → AllByRecursion IsName (names_in u)
use_names (uses.subject w) h = tt
use_names (uses.class w) h = tt
use_names (uses.body w) h = tt
use_names (uses.function w) h = tt
use_names (uses.variable w) h = tt
use_names (uses.owner w) h = tt
use_names (uses.value w) h = tt
use_names (uses.attribute w) h = (h, tt)
use_names (uses.text w) h = (h, tt)
use_names (uses.integer z) h = tt
use_names (uses.budget z) h = tt

all_names : (us : List Use) → AllByRecursion HasForm us → AllByRecursion IsName (flat_map names_in us)
all_names [] h = tt
all_names (u ∷ us) h = both_forms (names_in u) (flat_map names_in us) (use_names u h.0) (all_names us h.1)

module _ (t : Texts) where
  named_variables : (w : List ℕ) → IsName w → AllByRecursion IsName (variables_named t w)
  named_variables w h = by_register (is_register w) (meaning_of t w)
    where
      by_register : (b : Bool) (m : Meaning) → AllByRecursion IsName (cond b [] (if_variable m w))
      by_register true m = tt
      by_register false (texts.function n) = tt
      by_register false (texts.class n) = tt
      by_register false texts.variable = (h, tt)

  use_variables : (u : Use) → HasForm u → AllByRecursion IsName (variables_in t u)
  use_variables (uses.subject w) h = tt
  use_variables (uses.class w) h = tt
  use_variables (uses.body w) h = tt
  use_variables (uses.function w) h = tt
  use_variables (uses.variable w) h = (h, tt)
  use_variables (uses.owner w) h = named_variables w h
  use_variables (uses.value w) h = named_variables w h
  use_variables (uses.attribute w) h = tt
  use_variables (uses.text w) h = tt
  use_variables (uses.integer z) h = tt
  use_variables (uses.budget z) h = tt

  all_variables : (us : List Use) → AllByRecursion HasForm us → AllByRecursion IsName (flat_map (variables_in t) us)
  all_variables [] h = tt
  all_variables (u ∷ us) h = both_forms (variables_in t u) (flat_map (variables_in t) us) (use_variables u h.0) (all_variables us h.1)

abbrev HasNames : Texts → Type 0
HasNames t = AreIdentifiers t.names × AreIdentifiers t.vars

fold_names : (lines : List (List ℕ)) (s : State) → HasNames s.texts → HasNames (fold after s lines).texts
fold_names [] s h = h
fold_names (line ∷ lines) s h =
    let form = uses_are_names (read_words s line) in
    fold_names lines (after s line)
    (subst HasNames (sym (after_texts s line))
    (identifiers_all s.texts.names (flat_map names_in (uses_in s line)) h.0 (all_names (uses_in s line) form), identifiers_all s.texts.vars (flat_map (variables_in s.texts) (uses_in s line)) h.1 (all_variables s.texts (uses_in s line) form)))

special_identifiers : AreIdentifiers special_texts
special_identifiers = identifiers_all [] special_texts no_identifiers (refl, (refl, (refl, (refl, (refl, tt)))))

-- The whole

accepted : {A B : Type 0} (o : Option A) (b c : B) → if_no_offence o b ≡ Some c → (o ≡ None) × (b ≡ c)
accepted None b c e = (refl, cc)
accepted (Some x) b c e = absurd cc

apart_in : (text : List ℕ) → first_offence text ≡ None → AreToldApart (script_in text)
apart_in text none =
    let lines = lines_of text in
    let classes : List (List ℕ) = with_texts (codes "object" ∷ []) (declared_in (codes "class") lines) in
    let funcs : List (List ℕ) = with_texts [] (declared_in (codes "func") lines) in
    let same = fold_texts lines (before_all lines) in
    let names = fold_names lines (before_all lines) (special_identifiers, no_identifiers) in
    let object_apart : place_of (codes "object") funcs ≡ None = reserved_absent (codes "object") refl (codes "func") lines [] refl in
    let apart : (v : List ℕ) → is_some (place_of v classes) ≡ true → place_of v funcs ≡ None =
    so_of_all (λ w. place_of w funcs ≡ None) [] (codes "object" ∷ declared_in (codes "class") lines) (λ v there. absurd cc) (object_apart, apart_declared 1 (before_all lines) lines none) in
    let no_class : place_of (codes "none") classes ≡ None = reserved_absent (codes "none") refl (codes "class") lines (codes "object" ∷ []) refl in
    let no_func : place_of (codes "none") funcs ≡ None = reserved_absent (codes "none") refl (codes "func") lines [] refl in
    let are_classes : AreIdentifiers classes = identifiers_all [] (codes "object" ∷ declared_in (codes "class") lines) no_identifiers (refl, names_declared (codes "class") lines) in
    let are_funcs : AreIdentifiers funcs = identifiers_all [] (declared_in (codes "func") lines) no_identifiers (names_declared (codes "func") lines) in
    record {
      names = names.0;
      classes = subst AreIdentifiers (sym same.0) are_classes;
      vars = names.1;
      funcs = subst AreIdentifiers (sym same.1) are_funcs;
      apart = subst (λ cs. (v : List ℕ) → is_some (place_of v cs) ≡ true → place_of v (last_state text).texts.funcs ≡ None) (sym same.0) (subst (λ fs. (v : List ℕ) → is_some (place_of v classes) ≡ true → place_of v fs ≡ None) (sym same.1) apart);
      none_class = subst (λ cs. place_of (codes "none") cs ≡ None) (sym same.0) no_class;
      none_func = subst (λ fs. place_of (codes "none") fs ≡ None) (sym same.1) no_func;
    }

pub told_apart : (text : List ℕ) (s : ScriptParts) → IsScript text s → AreToldApart s
told_apart text s is = let k = accepted (first_offence text) (script_in text) s is in subst AreToldApart k.1 (apart_in text k.0)

-- Bytes

abbrev total : List (List ℕ) → ℕ
total [] = 0
total (line ∷ lines) = length line + total lines

total_onto : (byte : ℕ) (lines : List (List ℕ)) → total (onto_first byte lines) ≡ suc (total lines)
total_onto byte [] = refl
total_onto byte (line ∷ lines) = omega arith

total_lines : (text : List ℕ) → total (lines_of text) ≡ length text
total_lines [] = refl
total_lines (byte ∷ rest) =
    elim (byte == bytes.newline) as (λ b. total (cond b ((byte ∷ []) ∷ lines_of rest) (onto_first byte (lines_of rest))) ≡ length (byte ∷ rest)) [
      | true ↦ omega (arith, total_lines rest)
      | false ↦ omega (arith, total_onto byte (lines_of rest), total_lines rest)
    ]

few_bytes : (number : ℕ) (s : State) (lines : List (List ℕ)) → first_from number s lines ≡ None → s.bytes ≤ limits.most_bytes → s.bytes + total lines ≤ limits.most_bytes
few_bytes number s [] none few = omega arith
few_bytes number s (line ∷ lines) none few =
    let first = none_first (option_map (λ c. (number, c)) (cause_of s line)) (first_from (suc number) (after s line) lines) none in
    let clean = unmapped_none (λ (c : cause.Cause). (number, c)) (cause_of s line) first.0 in
    omega (arith, after_bytes s line, few_bytes (suc number) (after s line) lines first.1 (bytes_within s line clean))

pub short : (text : List ℕ) (s : ScriptParts) → IsScript text s → length text ≤ limits.most_bytes
short text s is =
    let k = accepted (first_offence text) (script_in text) s is in
    omega (arith, few_bytes 1 (before_all (lines_of text)) (lines_of text) k.0 (omega arith), total_lines text)
