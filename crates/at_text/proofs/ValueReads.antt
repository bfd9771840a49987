-- Names and values are read as they were written.
use Rattle.std.proofs.Common.{◌≡◌, ◌∙◌, ap, refl, sym, subst, ℕ, suc, ◌<◌, ◌≤◌, ◌+◌, ◌^◌, ◌==◌, nat_le, arith, List, [], ◌∷◌, ◌++◌, length, true, false, ◌&&◌, Option, Some, None, bytes_eq, codes, decimal, pos, negsuc, inl, inr, true≢false}
use Rattle.std.specs.List.{list_all, All, AllByRecursion}
use Rattle.std.proofs.lemmas.Bool.{eqb-true, le-leb, false_from_ne_true}
use Rattle.std.proofs.lemmas.Bool.Decides.{nat_tests}
use Rattle.std.proofs.lemmas.Fmt.{digits_decimal, decimal_nonempty}
use Rattle.std.proofs.lemmas.Slice.Eq.{bytes_eq-Decides}
use Rattle.std.proofs.lemmas.List.Elements.{recursion_from_All}
use Rattle.at_value.specs.Parts.{PropertyParts}
use Rattle.at_value.specs.Widths as widths
use Rattle.at_value.specs.declared.value.Value as value
use Rattle.at_value.specs.declared.value.Value.TheVariants.{Nothing, Int, Text, Func, Prop, Static, ClassM, Class, Obj}
use Rattle.at_name.specs.Texts.{place_of}
use Rattle.at_script.specs.Bytes as bytes
use Rattle.at_script.specs.Parts.{ScriptParts}
use Rattle.at_script.specs.Words.{begins_identifier, continues_identifier, is_identifier, is_digit}
use Rattle.at_text.specs.Words as words
use Rattle.at_text.specs.Values.{text_at, object_text, object_attribute, class_attribute, class_item, classes_text, part_text, value_text, value_item}
use Rattle.at_text.specs.Printable.{IsLong, IsObject, HasName, HasClass, HasPart, HasProperty, HasValue}
use Rattle.at_text.specs.Readers.{nothing, after, begins_run, begins_with}
use Rattle.at_text.specs.ReadValues.{object_at, object_attribute_at, class_attribute_at, class_item_at, begins_name, begins_item, classes_at, bases_at, part_at, property, property_at, negated, named, worded, value_at, value_item_at}
use Rattle.at_text.proofs.ReaderLaws.{Reads, Ends, Breaks, Stops, breaks-end, stops-break, and-true, or-true, begun, same_text, where_follows, after_reads, before_reads, made_reads, both_reads, word_runs, AreKnown, identifier_continues, digits, digits_continue, number_below_decimal, name_reads, number_reads, positive_reads, passing_reads, Listed, numbered_reads, flat_texts}

-- What a script has is told apart: its texts are names, each at its place, none of a class or a function is `none`, and no
-- class has the name of a function.
pub record IsTold (s : ScriptParts) : Type 0 where
  pub names : AreKnown s.names
  pub classes : AreKnown s.classes
  pub vars : AreKnown s.vars
  pub funcs : AreKnown s.funcs
  pub no_class : (c : ℕ) → c < length s.classes → bytes_eq (text_at s.classes c) words.none_word ≡ false
  pub no_func : (f : ℕ) → f < length s.funcs → bytes_eq (text_at s.funcs f) words.none_word ≡ false
  pub apart : (c : ℕ) → c < length s.classes → place_of (text_at s.classes c) s.funcs ≡ None

-- Objects, attributes and classes

pub object_reads : (o : ℕ) → IsObject o → Reads object_at (object_text o) o Ends
object_reads o h = after_reads (codes "#") (number_reads widths.objects o h (omega arith))

module _ (s : ScriptParts) (told : IsTold s) where
  pub object_attribute_reads : (o x : ℕ) → IsObject o → HasName s x → Reads (object_attribute_at s) (object_attribute s o x) (o, x) Ends
  object_attribute_reads o x h n = both_reads (λ y f. tt) (before_reads (codes ".") (λ y. refl) (object_reads o h)) (name_reads s.names x (told.names x n))

  pub class_attribute_reads : (c x : ℕ) → HasClass s c → HasName s x → Reads (class_attribute_at s) (class_attribute s c x) (c, x) Ends
  class_attribute_reads c x h n = both_reads (λ y f. tt) (before_reads (codes ".") (λ y. refl) (name_reads s.classes c (told.classes c h))) (name_reads s.names x (told.names x n))

  pub class_item_reads : (c : ℕ) → HasClass s c → Reads (class_item_at s) (class_item s c) c Ends
  class_item_reads c h = after_reads (codes " ") (name_reads s.classes c (told.classes c h))

  begins_known : (word x : List ℕ) → is_identifier word ≡ true → begins_name (word ++ x) ≡ true
  begins_known [] x h = cc
  begins_known (byte ∷ word) x h = (and-true (begins_identifier byte) (list_all continues_identifier word) h).0

  class_listed : (c : ℕ) → HasClass s c → Listed begins_item (λ _. class_item_at s) (λ _. class_item s) Ends c
  class_listed c h = record {
    some = λ number. omega arith;
    goes = λ number x. begins_known (text_at s.classes c) x (told.classes c h).form;
    next = λ number x. refl;
    reads = λ number. class_item_reads c h;
  }

  all_listed : (cs : List ℕ) → AllByRecursion (HasClass s) cs → AllByRecursion (Listed begins_item (λ _. class_item_at s) (λ _. class_item s) Ends) cs
  all_listed [] all = tt
  all_listed (c ∷ cs) all = (class_listed c all.0, all_listed cs all.1)

  -- no further class follows
  stops-item : (x : List ℕ) → Stops x → begins_item x ≡ false
  stops-item [] h = cc
  stops-item (byte ∷ x) h =
      elim (or-true (byte == bytes.newline) (byte == bytes.space && begins_with 61 x) h) [
        | inl e ↦ subst (λ b. (b == bytes.space && begins_name x) ≡ false) (sym (eqb-true byte bytes.newline e)) refl
        | inr e ↦
            let both = and-true _ _ e in
            let next = begun 61 x both.1 in
            subst (λ b. (b == bytes.space && begins_name x) ≡ false) (sym (eqb-true byte bytes.space both.0)) (subst (λ t. begins_name t ≡ false) (sym next.1) refl)
      ]

  pub classes_read : (cs : List ℕ) → All (HasClass s) cs → Reads (classes_at s) (classes_text s cs) cs Stops
  classes_read cs all =
      same_text (flat_texts (class_item s) 0 cs)
      (where_follows (λ x f. (stops-item x f, breaks-end x (stops-break x f)))
      (numbered_reads begins_item (λ _. class_item_at s) (λ _. class_item s) Ends cs (all_listed cs (recursion_from_All (HasClass s) cs all))))

  pub bases_read : (cs : List ℕ) → length cs ≤ widths.most_bases → All (HasClass s) cs → Reads (bases_at s) (classes_text s cs) cs Stops
  bases_read cs few all = passing_reads (λ (bases : List ℕ). nat_le (length bases) widths.most_bases) (le-leb (length cs) widths.most_bases few) (classes_read cs all)

  -- Values

  begins_identifier_run : (word x : List ℕ) → is_identifier word ≡ true → begins_run (word ++ x) ≡ true
  begins_identifier_run [] x h = cc
  begins_identifier_run (byte ∷ word) x h = (and-true (continues_identifier byte) (list_all continues_identifier word) (identifier_continues (byte ∷ word) h)).0

  no_colon : (x : List ℕ) → Breaks x → begins_with bytes.colon x ≡ false
  no_colon [] h = cc
  no_colon (byte ∷ x) h =
      elim (or-true (byte == bytes.space) (byte == bytes.newline) h) [
        | inl e ↦ subst (λ b. (b == bytes.colon) ≡ false) (sym (eqb-true byte bytes.space e)) refl
        | inr e ↦ subst (λ b. (b == bytes.colon) ≡ false) (sym (eqb-true byte bytes.newline e)) refl
      ]

  -- a value that is one word
  worded_reads : (word : List ℕ) (v : value.Value) → list_all continues_identifier word ≡ true → ((x : List ℕ) → begins_run (word ++ x) ≡ true) → worded s word ≡ Some v → Reads (value_at s) word v Breaks
  unfolding value_at
  worded_reads word v all begun is = record {
    here = λ x f.
        let runs = word_runs word x all (breaks-end x f) in
        rw (begun x, runs.1, no_colon x f, runs.0, is) refl;
  }

  part_reads : (p : Option ℕ) → HasPart s p → Reads (part_at s) (part_text s p) p Ends
  unfolding after nothing
  part_reads None h = record { here = λ x f. refl }
  part_reads (Some f) h = record {
    here = λ x e.
        rw (begins_identifier_run (text_at s.funcs f) x (told.funcs f h).form) ((made_reads Some (name_reads s.funcs f (told.funcs f h))).here x e);
  }

  property_reads : (p : PropertyParts) → HasProperty s p → Reads (property_at s) (part_text s p.get ++ codes "," ++ part_text s p.set ++ codes "," ++ part_text s p.del) p Ends
  property_reads p h =
      let first = before_reads (codes ",") (λ x. refl) (part_reads p.get h.0) in
      let second = before_reads (codes ",") (λ x. refl) (both_reads (λ x f. tt) first (part_reads p.set h.1)) in
      made_reads property (both_reads (λ x f. tt) second (part_reads p.del h.2))

  letter_no_digit : (byte : ℕ) → begins_identifier byte ≡ true → is_digit byte ≡ false
  letter_no_digit byte h = grind (arith, nat_tests)

  not_digits : (word : List ℕ) → is_identifier word ≡ true → list_all is_digit word ≡ false
  not_digits [] h = cc
  not_digits (byte ∷ word) h =
      ap (λ b. b && list_all is_digit word) (letter_no_digit byte (and-true (begins_identifier byte) (list_all continues_identifier word) h).0)

  not_none : (n : ℕ) → IsLong n → bytes_eq (decimal n) words.none_word ≡ false
  not_none n h = false_from_ne_true (bytes_eq (decimal n) words.none_word) (λ same.
      let all : list_all is_digit words.none_word ≡ true = subst (λ w. list_all is_digit w ≡ true) ((bytes_eq-Decides (decimal n) words.none_word).0 same) (digits_decimal digits n h) in
      true≢false (sym all))

  pub begins_all : (word x : List ℕ) → 0 < length word → list_all continues_identifier word ≡ true → begins_run (word ++ x) ≡ true
  begins_all [] x some h = absurd (omega arith)
  begins_all (byte ∷ word) x some h = (and-true (continues_identifier byte) (list_all continues_identifier word) h).0

  -- a function or a class by its name
  named_reads : (word : List ℕ) (v : value.Value) → is_identifier word ≡ true → bytes_eq word words.none_word ≡ false → named (place_of word s.funcs) (place_of word s.classes) ≡ Some v → Reads (value_at s) word v Breaks
  named_reads word v form other is =
      worded_reads word v (identifier_continues word form) (λ x. begins_identifier_run word x form) (rw (other, not_digits word form) is)

  pub value_reads : (v : value.Value) → HasValue s v → Reads (value_at s) (value_text s v) v Breaks
  unfolding value_at
  value_reads Nothing h = worded_reads words.none_word Nothing refl (λ x. refl) refl
  value_reads (Int (pos n)) h =
      let long : IsLong n = omega arith in
      let all = digits_decimal digits n long in
      let continue = digits_continue (decimal n) all in
      worded_reads (decimal n) (Int (pos n)) continue (λ x. begins_all (decimal n) x (decimal_nonempty n long) continue) (rw (not_none n long, all, number_below_decimal (2 ^ 31) n h long) refl)
  value_reads (Int (negsuc n)) h = record {
    here = λ x f. (made_reads (λ m. Int (negated m)) (positive_reads (2 ^ 31 + 1) (suc n) (omega arith) (omega arith) (omega arith))).here x (breaks-end x f);
  }
  value_reads (Text x) h = record { here = λ y f. (made_reads Text (before_reads (codes "\"") (λ z. refl) (name_reads s.names x (told.names x h)))).here y tt }
  value_reads (Func f) h =
      named_reads (text_at s.funcs f) (Func f) (told.funcs f h).form (told.no_func f h) (ap (λ o. named o (place_of (text_at s.funcs f) s.classes)) (told.funcs f h).place)
  value_reads (Prop p) h = record { here = λ x f. (made_reads Prop (property_reads p h)).here x (breaks-end x f) }
  value_reads (Static n) h = record { here = λ x f. (made_reads Static (name_reads s.funcs n (told.funcs n h))).here x (breaks-end x f) }
  value_reads (ClassM n) h = record { here = λ x f. (made_reads ClassM (name_reads s.funcs n (told.funcs n h))).here x (breaks-end x f) }
  value_reads (Class c) h =
      named_reads (text_at s.classes c) (Class c) (told.classes c h).form (told.no_class c h)
      (ap (λ o. named o (place_of (text_at s.classes c) s.classes)) (told.apart c h) ∙ ap (named None) (told.classes c h).place)
  value_reads (Obj o) h = record { here = λ x f. (made_reads Obj (number_reads widths.objects o h (omega arith))).here x (breaks-end x f) }

  pub value_item_reads : (v : value.Value) → HasValue s v → Reads (value_item_at s) (value_item s v) v Breaks
  value_item_reads v h = after_reads (codes " ") (value_reads v h)
