-- Lists of distinct texts: where a text stands, and what one more text changes.
use Rattle.std.proofs.Common.{String, ℕ, ◌≡◌, ◌<◌, ◌≤◌, ◌+◌, ◌∙◌, sym, ap, refl, subst, List, [], ◌∷◌, ◌++◌, length, map, Option, Some, None, Result, Ok, ◌↔◌, IfSome, IfNone, inl, inr, position, bytes_eq, Bool, true, false, cond, not, nat_lt, ltb, arith, rules, length-append}
use Rattle.std.specs.List.{list_any, position_or_len, prefix_len, IsDistinct}
use Rattle.std.specs.Option.{option_map}
use Rattle.std.specs.String.{string_bytes}
use Rattle.std.specs.Cmp.Lexicographic.{nat_list_eq_equiv}
use Rattle.std.proofs.lemmas.List.{length-map, take-append-le, length-take}
use Rattle.std.proofs.lemmas.Option.{some_pair_parts, none-some}
use Rattle.std.proofs.lemmas.Bool.{cases_Bool, le-ltb, lt-ltb, ltb-true, ltb-false}
use Rattle.std.proofs.lemmas.Bool.Decides.{nat_tests}
use Rattle.std.proofs.lemmas.Map.Keys.{IsDistinct-push}
use Rattle.at_value.specs.Numbers.{special_names}
use Rattle.at_value.specs.Widths as widths
use Rattle.at_name.specs.Texts.{AreDistinct, AreNames, place_of, found_or_added, interned, special_texts}

-- a test of the texts of some items is a test of the items
prefix_len-map : {X Y : Type 0} (p : Y → Bool) (f : X → Y) (xs : List X) → prefix_len p (map f xs) ≡ prefix_len (λ x. p (f x)) xs
prefix_len-map p f [] = refl
prefix_len-map p f (x ∷ xs) = ap (λ n. cond (p (f x)) (1 + n) 0) (prefix_len-map p f xs)

-- where an element stands that f makes pass
pub position-map : {X Y : Type 0} (p : Y → Bool) (f : X → Y) (xs : List X) → position p (map f xs) ≡ position (λ x. p (f x)) xs
position-map p f xs =
    let same = prefix_len-map (λ t. not (p t)) f xs in
    rw (same, length-map) refl

-- where a text stands among keys
pub place_is : {Z : Type 0} (text : List ℕ) (keys : List (String Z)) (texts : List (List ℕ)) (r : Option ℕ) → map string_bytes keys ≡ texts → r ≡ position (λ k. bytes_eq text (string_bytes k)) keys → place_of text texts ≡ r
place_is text keys texts r view index = sym (ap (place_of text) view) ∙ position-map (bytes_eq text) string_bytes keys ∙ sym index

module _ {X : Type 0} (p : X → Bool) where
  -- the first place that passes is in the list or at its end
  place_within : (xs : List X) → position_or_len p xs ≤ length xs
  place_within [] = omega arith
  place_within (x ∷ xs) = elim (cases_Bool (p x)) [ inl e ↦ rw e (omega arith) | inr e ↦ rw e (omega (arith, place_within xs)) ]

  -- where no item passes, that place is the length
  none_passes : (xs : List X) → position p xs ≡ None → position_or_len p xs ≡ length xs
  none_passes xs h =
      let le = place_within xs in
      elim (cases_Bool (nat_lt (position_or_len p xs) (length xs))) [
        | inl lt ↦ absurd (let some : Some (position_or_len p xs) ≡ None = rw lt at h in cc)
        | inr ge ↦ grind (arith, nat_tests)
      ]

  any_none : (xs : List X) → position_or_len p xs ≡ length xs → list_any p xs ≡ false
  any_none [] h = refl
  any_none (x ∷ xs) h =
      elim (cases_Bool (p x)) [ inl e ↦ let h' = rw e at h in absurd (omega arith) | inr e ↦ let h' = rw e at h in rw e (any_none xs (omega arith)) ]

  -- an item that passes, after items that don't
  position_or_len-push : (xs : List X) (x : X) → position_or_len p xs ≡ length xs → p x ≡ true → position_or_len p (xs ++ x ∷ []) ≡ length xs
  position_or_len-push [] x h here = rw here refl
  position_or_len-push (y ∷ xs) x h here =
      elim (cases_Bool (p y)) [
        | inl e ↦ let h' = rw e at h in absurd (omega arith)
        | inr e ↦ let h' = rw e at h in rw e (let rest = position_or_len-push xs x (omega arith) here in omega arith)
      ]

-- the place of one more text, and the texts with it
abbrev added_to : List ℕ → List (List ℕ) → Option (ℕ × List (List ℕ))
added_to text texts = Some (length texts, texts ++ text ∷ [])

-- a text that stands there
pub interned_found : (most : ℕ) (text : List ℕ) (texts : List (List ℕ)) (place : ℕ) → place_of text texts ≡ Some place → interned most text texts ≡ Some (place, texts)
interned_found most text texts place h = ap (found_or_added most text texts) h

-- a text that isn't there, where there is no room
pub interned_full : (most : ℕ) (text : List ℕ) (texts : List (List ℕ)) → place_of text texts ≡ None → length texts ≡ most → interned most text texts ≡ None
interned_full most text texts h full =
    ap (found_or_added most text texts) h
    ∙ ap (λ b. cond b (added_to text texts) None) (le-ltb (length texts) most (omega (arith, full)))

-- a text that isn't there, where there is room
pub interned_new : (most : ℕ) (text : List ℕ) (texts : List (List ℕ)) → place_of text texts ≡ None → length texts < most → interned most text texts ≡ Some (length texts, texts ++ text ∷ [])
interned_new most text texts h room =
    ap (found_or_added most text texts) h
    ∙ ap (λ b. cond b (added_to text texts) None) (lt-ltb (length texts) most room)

-- what an `intern` leaves where it was computed from what stood before
pub left_by : (most : ℕ) (text : List ℕ) (old new known after : List (List ℕ)) (place : ℕ) (r : Option ℕ) → old ≡ known → interned most text known ≡ Some (place, after) → interned most text old ≡ option_map (λ n. (n, new)) r → new ≡ after
left_by most text old new known after place None same found e = absurd (none-some (place, after) (sym e ∙ ap (interned most text) same ∙ found))
left_by most text old new known after place (Some n) same found e = (some_pair_parts n place new after (sym e ∙ ap (interned most text) same ∙ found)).1

-- a new text stands at the end
place_of-push : (text : List ℕ) (texts : List (List ℕ)) → place_of text texts ≡ None → place_of text (texts ++ text ∷ []) ≡ Some (length texts)
place_of-push text texts h =
    let place = position_or_len-push (bytes_eq text) texts text (none_passes (bytes_eq text) texts h) (nat_list_eq_equiv.refl text) in
    let longer : nat_lt (length texts) (length (texts ++ text ∷ [])) ≡ true = grind (arith, nat_tests, length-append texts (text ∷ [])) in
    rw (place, longer) refl

none_twice : IsDistinct bytes_eq []
unfolding IsDistinct
none_twice = tt

-- no texts, and one more text
pub AreDistinct-nil : (most : ℕ) → AreDistinct most []
AreDistinct-nil most = record { distinct = none_twice; bounded = omega arith }

pub AreDistinct-push : (most : ℕ) (text : List ℕ) (texts : List (List ℕ)) → AreDistinct most texts → place_of text texts ≡ None → length texts < most → AreDistinct most (texts ++ text ∷ [])
AreDistinct-push most text texts h absent room = record {
  distinct = IsDistinct-push nat_list_eq_equiv texts text h.distinct (any_none (bytes_eq text) texts (none_passes (bytes_eq text) texts absent));
  bounded = omega (arith, length-append texts (text ∷ []));
}

special_distinct : IsDistinct bytes_eq special_texts
unfolding IsDistinct
special_distinct = search rules

-- the special names alone
pub AreNames-special : AreNames special_texts
AreNames-special = record { special = refl; distinct = special_distinct; most = omega arith }

-- what an `intern` gives, by whether the text stands there
interned_cases : (most : ℕ) (text : List ℕ) (texts new : List (List ℕ)) (place : ℕ) (P : ℕ → List (List ℕ) → Type 0) → interned most text texts ≡ Some (place, new)
    → ((n : ℕ) → place_of text texts ≡ Some n → P n texts) → (place_of text texts ≡ None → length texts < most → P (length texts) (texts ++ text ∷ [])) → P place new
interned_cases most text texts new place P e found added =
    let moved : (n : ℕ) (l : List (List ℕ)) → ◌≡◌ {A = Option (ℕ × List (List ℕ))} (Some (n, l)) (Some (place, new)) → P n l → P place new = λ n l same h.
    let parts = some_pair_parts n place l new same in
    let Q : List (List ℕ) → Type 0 = P place in
    let R : ℕ → Type 0 = λ m. P m l in
    subst Q parts.1 (subst R parts.0 h) in
    elim (place_of text texts) as (λ o. place_of text texts ≡ o → found_or_added most text texts o ≡ Some (place, new) → P place new) [
      | Some n ↦ λ is same. moved n texts same (found n is)
      | None ↦ λ is same. elim (ltb (length texts) most) as (λ b. ltb (length texts) most ≡ b → cond b (added_to text texts) None ≡ Some (place, new) → P place new) [
        | true ↦ λ room same. moved (length texts) (texts ++ text ∷ []) same (added is (ltb-true (length texts) most room))
        | false ↦ λ full same. let found : ℕ × List (List ℕ) = (place, new) in absurd (none-some found same)
      ] refl same
    ] refl e

-- an interned text stands at the place that was given
pub place_of-interned : (most : ℕ) (text : List ℕ) (texts new : List (List ℕ)) (place : ℕ) → interned most text texts ≡ Some (place, new) → place_of text new ≡ Some place
place_of-interned most text texts new place e =
    interned_cases most text texts new place (λ n l. place_of text l ≡ Some n) e (λ n is. is) (λ absent room. place_of-push text texts absent)

-- a table of names stays one
AreNames-interned : (text : List ℕ) (texts new : List (List ℕ)) (place : ℕ) → AreNames texts → interned widths.names text texts ≡ Some (place, new) → AreNames new
AreNames-interned text texts new place h e =
    interned_cases widths.names text texts new place (λ n l. AreNames l) e (λ n is. h) (λ absent room.
    let all = AreDistinct-push widths.names text texts (record { distinct = h.distinct; bounded = h.most }) absent room in
    record {
      special = let enough : special_names ≤ length texts = omega (arith, ap length h.special, length-take special_names texts) in take-append-le special_names texts (text ∷ []) enough ∙ h.special;
      distinct = all.distinct;
      most = all.bounded;
    })

-- also where no place was given
pub AreNames-option : (text : List ℕ) (texts new : List (List ℕ)) (r : Option ℕ) → AreNames texts → interned widths.names text texts ≡ option_map (λ n. (n, new)) r → (r ≡ None → new ≡ texts) → AreNames new
AreNames-option text texts new None h e unchanged = rw (unchanged refl) h
AreNames-option text texts new (Some n) h e unchanged = AreNames-interned text texts new n h e

-- there is no place exactly for a new text in a full list
pub interned_none : (most : ℕ) (text : List ℕ) (texts : List (List ℕ)) → length texts ≤ most → interned most text texts ≡ None → (place_of text texts ≡ None) × (length texts ≡ most)
interned_none most text texts h e =
    elim (place_of text texts) as (λ o. place_of text texts ≡ o → found_or_added most text texts o ≡ None → (place_of text texts ≡ None) × (length texts ≡ most)) [
      | Some n ↦ λ is same. let found : ℕ × List (List ℕ) = (n, texts) in absurd (none-some found (sym same))
      | None ↦ λ is same. elim (ltb (length texts) most) as (λ b. ltb (length texts) most ≡ b → cond b (added_to text texts) None ≡ None → (place_of text texts ≡ None) × (length texts ≡ most)) [
        | true ↦ λ room same. let found : ℕ × List (List ℕ) = (length texts, texts ++ text ∷ []) in absurd (none-some found (sym same))
        | false ↦ λ full same. (is, let ge = ltb-false (length texts) most full in omega arith)
      ] refl same
    ] refl e

-- an `intern` that gives a place or none gives none exactly for a new text in a full list
pub full_exactly : {E : Type 0} (most : ℕ) (text : List ℕ) (texts new : List (List ℕ)) (r : Option ℕ) → length texts ≤ most → interned most text texts ≡ option_map (λ n. (n, new)) r
    → (◌≡◌ {A = Result (Option ℕ) E} (Ok r) (Ok None)) ↔ ((place_of text texts ≡ None) × (length texts ≡ most))
full_exactly most text texts new None h e = (λ _. interned_none most text texts h e, λ _. refl)
full_exactly most text texts new (Some n) h e = (
  λ none. absurd cc,
  λ k.
      let found : ℕ × List (List ℕ) = (n, new) in
      absurd (none-some found (sym (interned_full most text texts k.0 k.1) ∙ e)),
)

-- the name of a number that is in range
pub name_in_range : (r : Option ℕ) (place : ℕ) → IfSome r (λ name. (name ≡ place) × (place < widths.names)) → IfNone r (widths.names ≤ place) → place < widths.names → r ≡ Some place
name_in_range None place some none lt = absurd (omega arith)
name_in_range (Some name) place some none lt = ap Some some.0
