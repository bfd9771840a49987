-- What is read as a value, an operation, a reply or a line is the text of it.
use Rattle.std.proofs.Common.{◌≡◌, ◌∙◌, ap, refl, sym, subst, ℕ, zero, suc, ◌+◌, ◌<◌, ◌^◌, nat_lt, nat_le, arith, List, ◌++◌, length, true, cond, bytes_eq, codes, decimal, Option, Some, None, inl, inr, true≢false, pos}
use Rattle.std.specs.Option.{option_map}
use Rattle.std.specs.List.{list_all, AllByRecursion}
use Rattle.std.proofs.lemmas.Bool.{cases_Bool, leb-true}
use Rattle.std.proofs.lemmas.Option.{same_Some}
use Rattle.std.proofs.lemmas.List.Elements.{All-from_recursion}
use Rattle.std.proofs.lemmas.Slice.Eq.{bytes_eq-Decides}
use Rattle.at_value.specs.Widths as widths
use Rattle.at_value.specs.Parts.{PropertyParts}
use Rattle.at_value.specs.declared.value.Value as value
use Rattle.at_value.specs.declared.value.Value.TheVariants.{Nothing, Int, Text, Func, Prop, Static, ClassM, Class, Obj}
use Rattle.at_name.specs.Texts.{place_of}
use Rattle.at_script.specs.Bytes as bytes
use Rattle.at_script.specs.Words.{is_digit}
use Rattle.at_script.specs.Parts.{ScriptParts}
use Rattle.at_text.specs.Words as words
use Rattle.at_text.specs.Values.{object_text, object_attribute, class_attribute, class_item, classes_text, part_text, value_text, value_item}
use Rattle.at_text.specs.Printable.{IsObject, HasName, HasClass, HasPart, HasProperty, HasValue, HasBases}
use Rattle.at_text.specs.Readers.{nothing, made, after, choice, run, past_run, begins_run, begins_with, number_below, name_at}
use Rattle.at_text.specs.ReadValues.{object_at, object_attribute_at, class_attribute_at, class_item_at, begins_item, classes_at, bases_at, part_at, property, property_at, negated, integer_of, named, worded, marked_rows, wrapped_rows, value_at, value_item_at}
use Rattle.at_back.proofs.Gives.{Gives, map_parts, after_gives, before_gives, passing_gives, made_gives, row_gives, both_gives, choice_gives, run_split, number_gives, below_gives, word_gives, place_gives, name_gives, numbered_gives}

-- Objects, attributes and classes

pub object_gives : Gives object_at object_text IsObject
object_gives = after_gives (codes "#") (number_gives widths.objects)

module _ (s : ScriptParts) where
  pub object_attribute_gives : Gives (object_attribute_at s) (λ p. object_attribute s p.0 p.1) (λ p. IsObject p.0 × HasName s p.1)
  object_attribute_gives = both_gives (before_gives (codes ".") object_gives) (name_gives s.names)

  pub class_attribute_gives : Gives (class_attribute_at s) (λ p. class_attribute s p.0 p.1) (λ p. HasClass s p.0 × HasName s p.1)
  class_attribute_gives = both_gives (before_gives (codes ".") (name_gives s.classes)) (name_gives s.names)

  pub class_item_gives : Gives (class_item_at s) (class_item s) (HasClass s)
  class_item_gives = after_gives (codes " ") (name_gives s.classes)

  pub classes_give : Gives (classes_at s) (classes_text s) (AllByRecursion (HasClass s))
  classes_give = numbered_gives begins_item class_item_gives

  pub bases_give : Gives (bases_at s) (classes_text s) (HasBases s)
  bases_give = record {
    there = λ t p h.
        let k = (passing_gives (λ (bases : List ℕ). nat_le (length bases) widths.most_bases) classes_give).there t p h in
        (k.0, (leb-true (length p.0) widths.most_bases k.1.1, All-from_recursion (HasClass s) p.0 k.1.0));
  }

  -- Values

  part_gives : Gives (part_at s) (part_text s) (HasPart s)
  part_gives =
      let some : Gives (made Some (name_at s.funcs)) (part_text s) (HasPart s) = made_gives Some (part_text s) (HasPart s) (λ f. refl) (λ f h. h) (name_gives s.funcs) in
      let none : Gives (after (codes "-") (nothing None)) (part_text s) (HasPart s) = word_gives (codes "-") None (part_text s) (HasPart s) refl tt in
      record {
        there = λ t p h.
            elim (cases_Bool (begins_run t)) [
              | inl e ↦ some.there t p (sym (ap (λ c. cond c (made Some (name_at s.funcs) t) (after (codes "-") (nothing None) t)) e) ∙ h)
              | inr e ↦ none.there t p (sym (ap (λ c. cond c (made Some (name_at s.funcs) t) (after (codes "-") (nothing None) t)) e) ∙ h)
            ];
      }

  parts_text : PropertyParts → List ℕ
  parts_text p = part_text s p.get ++ codes "," ++ part_text s p.set ++ codes "," ++ part_text s p.del

  property_gives : Gives (property_at s) parts_text (HasProperty s)
  unfolding parts_text
  property_gives =
      made_gives property parts_text (HasProperty s) (λ p. refl) (λ p h. (h.0.0, h.0.1, h.1))
      (both_gives (before_gives (codes ",") (both_gives (before_gives (codes ",") part_gives) part_gives)) part_gives)

  minus : (n : ℕ) → (n < 2 ^ 31 + 1) × (nat_lt 0 n ≡ true) → (codes "-" ++ decimal n ≡ value_text s (Int (negated n))) × HasValue s (Int (negated n))
  minus zero h = absurd (true≢false (sym h.1))
  minus (suc n) h = let l = h.0 in (refl, omega arith)

  marked_give : Gives (choice (marked_rows s)) (value_text s) (HasValue s)
  marked_give =
      choice_gives (value_text s) (HasValue s) (marked_rows s) (
        row_gives (codes "\"") Text (value_text s) (HasValue s) (λ x h. (refl, h)) (before_gives (codes "\"") (name_gives s.names)),
        (
          row_gives (codes "#") Obj (value_text s) (HasValue s) (λ o h. (refl, h)) (number_gives widths.objects),
          (
            row_gives (codes "-") (λ n. Int (negated n)) (value_text s) (HasValue s) minus (passing_gives (nat_lt 0) (number_gives (2 ^ 31 + 1))),
            tt,
          ),
        ),
      )

  wrapped_give : Gives (choice (wrapped_rows s)) (value_text s) (HasValue s)
  unfolding parts_text
  wrapped_give =
      choice_gives (value_text s) (HasValue s) (wrapped_rows s) (
        row_gives words.static_word Static (value_text s) (HasValue s) (λ f h. (refl, h)) (name_gives s.funcs),
        (
          row_gives words.classm_word ClassM (value_text s) (HasValue s) (λ f h. (refl, h)) (name_gives s.funcs),
          (
            row_gives words.prop_word Prop (value_text s) (HasValue s) (λ q h. (refl, h)) property_gives,
            tt,
          ),
        ),
      )

  integer_gives : (word : List ℕ) (v : value.Value) → integer_of word ≡ Some v → (word ≡ value_text s v) × HasValue s v
  integer_gives word v h =
      let m = map_parts (λ (n : ℕ). Int (pos n)) (number_below (2 ^ 31) word) v h in
      let k = below_gives (2 ^ 31) word m.0 m.1 in
      subst (λ w. (word ≡ value_text s w) × HasValue s w) m.2 (k.0, k.1)

  named_gives : (word : List ℕ) (v : value.Value) → named (place_of word s.funcs) (place_of word s.classes) ≡ Some v → (word ≡ value_text s v) × HasValue s v
  named_gives word v h =
      elim (place_of word s.funcs) as (λ o. place_of word s.funcs ≡ o → named o (place_of word s.classes) ≡ Some v → (word ≡ value_text s v) × HasValue s v) [
        | Some f ↦ λ e k. subst (λ w. (word ≡ value_text s w) × HasValue s w) (same_Some (Func f) v k) (place_gives word s.funcs f e)
        | None ↦ λ e k. of_class (place_of word s.classes) refl k
      ] refl h
    where
      of_class : (o : Option ℕ) → place_of word s.classes ≡ o → named None o ≡ Some v → (word ≡ value_text s v) × HasValue s v
      of_class None e k = cc
      of_class (Some c) e k = subst (λ w. (word ≡ value_text s w) × HasValue s w) (same_Some (Class c) v k) (place_gives word s.classes c e)

  worded_gives : (word : List ℕ) (v : value.Value) → worded s word ≡ Some v → (word ≡ value_text s v) × HasValue s v
  worded_gives word v h =
      let rest : Option value.Value = cond (list_all is_digit word) (integer_of word) (named (place_of word s.funcs) (place_of word s.classes)) in
      elim (cases_Bool (bytes_eq word words.none_word)) [
        | inl e ↦
            subst (λ w. (word ≡ value_text s w) × HasValue s w) (same_Some Nothing v (sym (ap (λ c. cond c (Some Nothing) rest) e) ∙ h))
            ((bytes_eq-Decides word words.none_word).0 e, tt)
        | inr e ↦
            let k : rest ≡ Some v = sym (ap (λ c. cond c (Some Nothing) rest) e) ∙ h in
            elim (cases_Bool (list_all is_digit word)) [
              | inl d ↦ integer_gives word v (sym (ap (λ c. cond c (integer_of word) (named (place_of word s.funcs) (place_of word s.classes))) d) ∙ k)
              | inr d ↦ named_gives word v (sym (ap (λ c. cond c (integer_of word) (named (place_of word s.funcs) (place_of word s.classes))) d) ∙ k)
            ]
      ]

  pub value_gives : Gives (value_at s) (value_text s) (HasValue s)
  unfolding value_at
  value_gives = record {
    there = λ t p h.
        let word : Option (value.Value × List ℕ) = option_map (λ v. (v, past_run t)) (worded s (run t)) in
        let front : Option (value.Value × List ℕ) = cond (begins_with bytes.colon (past_run t)) (choice (wrapped_rows s) t) word in
        elim (cases_Bool (begins_run t)) [
          | inl e ↦
              let k : front ≡ Some p = sym (ap (λ c. cond c front (choice (marked_rows s) t)) e) ∙ h in
              elim (cases_Bool (begins_with bytes.colon (past_run t))) [
                | inl f ↦ wrapped_give.there t p (sym (ap (λ c. cond c (choice (wrapped_rows s) t) word) f) ∙ k)
                | inr f ↦
                    let m = map_parts (λ (v : value.Value). (v, past_run t)) (worded s (run t)) p (sym (ap (λ c. cond c (choice (wrapped_rows s) t) word) f) ∙ k) in
                    let g = worded_gives (run t) m.0 m.1 in
                    subst (λ (z : value.Value × List ℕ). (t ≡ value_text s z.0 ++ z.1) × HasValue s z.0) m.2 (run_split t ∙ ap (λ l. l ++ past_run t) g.0, g.1)
              ]
          | inr e ↦ marked_give.there t p (sym (ap (λ c. cond c front (choice (marked_rows s) t)) e) ∙ h)
        ];
  }

  pub value_item_gives : Gives (value_item_at s) (value_item s) (HasValue s)
  value_item_gives = after_gives (codes " ") value_gives
