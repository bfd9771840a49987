-- What an identifier is numbered as, where one more text is numbered.
use Rattle.std.proofs.Common.{◌≡◌, ◌∙◌, ap, refl, sym, ℕ, ◌+◌, ◌<◌, ◌≤◌, arith, List, [], ◌∷◌, ◌++◌, length, map, Bool, true, false, cond, Option, Some, None, is_some, eqb, position, bytes_eq, Bor, inl, inr, length-append}
use Rattle.std.specs.List.{position_or_len}
use Rattle.std.specs.HashMap.{HashMap, get_by, UpdatesBy}
use Rattle.std.proofs.lemmas.Bool.{cases_Bool, both_ways, false_from_ne_true, lt-ltb, le-ltb, eqb-true, eqb-false, eq-eqb, ne_eqb}
use Rattle.std.proofs.lemmas.List.Folds.{position_or_len_push}
use Rattle.std.proofs.lemmas.Slice.Eq.{bytes_eq-Decides}
use Rattle.std.proofs.lemmas.Map.Text.{hash_map_updates_str}
use Rattle.at_name.specs.Texts.{place_of}
use Rattle.at_script.proofs.Cuts.{none_at}
use Rattle.std.proofs.lemmas.List.{map-append}
use Rattle.std.specs.Cmp.Lexicographic.{nat_list_eq_equiv}
use Rattle.at_script.specs.declared.meaning.Meaning.{Meaning}
use Rattle.std.specs.Option.{option_map}
use Rattle.at_script.specs.Texts.{with_texts}
use Rattle.at_script.specs.Meanings.{now_of, class_number, func_number, meaning_among, meaning_or_none}

-- a text that stands there is known by its place
module _ (p : List ℕ → Bool) (xs : List (List ℕ)) (y : List ℕ) (other : p y ≡ false) (within : position_or_len p xs ≤ length xs) where
  position-other : position p (xs ++ y ∷ []) ≡ position p xs
  position-other =
      let more : length (xs ++ y ∷ []) ≡ length xs + 1 = length-append xs (y ∷ []) in
      let push = position_or_len_push p xs y in
      elim (cases_Bool (eqb (position_or_len p xs) (length xs))) [
        | inl e ↦
            let at_end : position_or_len p (xs ++ y ∷ []) ≡ length xs + 1 = push ∙ ap (λ b. cond b (length xs + cond (p y) 0 1) (position_or_len p xs)) e ∙ ap (λ b. length xs + cond b 0 1) other in
            rw (le-ltb (position_or_len p (xs ++ y ∷ [])) (length (xs ++ y ∷ [])) (omega arith), le-ltb (position_or_len p xs) (length xs) (let same = eqb-true _ _ e in omega arith)) refl
        | inr e ↦
            let same : position_or_len p (xs ++ y ∷ []) ≡ position_or_len p xs = push ∙ ap (λ b. cond b (length xs + cond (p y) 0 1) (position_or_len p xs)) e in
            let less : position_or_len p xs < length xs = (let apart = eqb-false (position_or_len p xs) (length xs) e in omega arith) in
            rw (same, lt-ltb (position_or_len p xs) (length (xs ++ y ∷ [])) (omega arith), lt-ltb (position_or_len p xs) (length xs) less) refl
      ]

pub place_within : (p : List ℕ → Bool) (xs : List (List ℕ)) → position_or_len p xs ≤ length xs
place_within p [] = omega arith
place_within p (x ∷ xs) = elim (cases_Bool (p x)) [ inl e ↦ rw e (omega arith) | inr e ↦ rw e (omega (arith, place_within p xs)) ]

-- the place of another text is as before
pub place_of-other : (word text : List ℕ) (texts : List (List ℕ)) → bytes_eq word text ≡ false → place_of word (texts ++ text ∷ []) ≡ place_of word texts
place_of-other word text texts other = position-other (bytes_eq word) texts text other (place_within (bytes_eq word) texts)

position-added : (p : List ℕ → Bool) (xs : List (List ℕ)) (y : List ℕ) → p y ≡ true → position p xs ≡ None → position p (xs ++ y ∷ []) ≡ Some (length xs)
position-added p xs y here absent =
    let within = place_within p xs in
    let none = none_at (position_or_len p xs) (length xs) absent in
    let more : length (xs ++ y ∷ []) ≡ length xs + 1 = length-append xs (y ∷ []) in
    let at_end : position_or_len p (xs ++ y ∷ []) ≡ length xs =
    position_or_len_push p xs y ∙ ap (λ b. cond b (length xs + cond (p y) 0 1) (position_or_len p xs)) (eq-eqb (position_or_len p xs) (length xs) (omega arith)) ∙ ap (λ b. length xs + cond b 0 1) here ∙ (let e : length xs + 0 ≡ length xs = omega arith in e) in
    rw (at_end, lt-ltb (length xs) (length (xs ++ y ∷ [])) (omega arith)) refl

pub place_of-push : (text : List ℕ) (texts : List (List ℕ)) → place_of text texts ≡ None → place_of text (texts ++ text ∷ []) ≡ Some (length texts)
place_of-push text texts absent = position-added (bytes_eq text) texts text (nat_list_eq_equiv.refl text) absent

-- a new text stands at the end
pub place_of-added : (word text : List ℕ) (texts : List (List ℕ)) → bytes_eq text word ≡ true → place_of text texts ≡ None → place_of word (texts ++ text ∷ []) ≡ Some (length texts)
place_of-added word text texts same absent =
    ap (λ w. place_of w (texts ++ text ∷ [])) (sym ((bytes_eq-Decides text word).0 same)) ∙ place_of-push text texts absent

pub apart : (word text : List ℕ) → bytes_eq text word ≡ false → bytes_eq word text ≡ false
apart word text other = false_from_ne_true (bytes_eq word text) (λ same. both_ways (bytes_eq text word) other ((bytes_eq-Decides text word).1 (sym ((bytes_eq-Decides word text).0 same))))

-- What the table says of each identifier after one is set.
module _ {S : Type 0} (m n : HashMap (Bor (List ℕ)) Meaning S) (text : List ℕ) (value : Meaning) (updates : UpdatesBy (λ x y. bytes_eq x.now y.now) (λ k. bytes_eq text k.now) m n (Some value)) where
  abbrev found_in : HashMap (Bor (List ℕ)) Meaning S → List ℕ → Meaning
  found_in t word = meaning_or_none (get_by (λ k. bytes_eq word k.now) t)

  set_to : (word : List ℕ) → found_in n word ≡ cond (bytes_eq text word) value (found_in m word)
  set_to word =
      ap meaning_or_none (hash_map_updates_str text m n (Some value) updates word)
      ∙ elim (bytes_eq text word) as (λ b. meaning_or_none (cond b (Some value) (get_by (λ k. bytes_eq word k.now) m)) ≡ cond b value (meaning_or_none (get_by (λ k. bytes_eq word k.now) m))) [ true ↦ refl | false ↦ refl ]

  -- one more class
  pub with_class : (classes funcs vars names : List (List ℕ)) → ((word : List ℕ) → found_in m word ≡ meaning_among classes funcs vars names word) → value ≡ record (meaning_among classes funcs vars names text) { class = Some (class_number (length classes)) } → place_of text classes ≡ None
      → (word : List ℕ) → found_in n word ≡ meaning_among (classes ++ text ∷ []) funcs vars names word
  with_class classes funcs vars names agrees is absent word =
      elim (cases_Bool (bytes_eq text word)) [
        | inl e ↦
            let same = (bytes_eq-Decides text word).0 e in
            set_to word ∙ ap (λ b. cond b value (found_in m word)) e ∙ is
            ∙ ap (λ (w : List ℕ). record { class = Some (class_number (length classes)); func = option_map func_number (place_of w funcs); var = place_of w vars; name = place_of w names }) same
            ∙ ap (λ (o : Option ℕ). record { class = option_map class_number o; func = option_map func_number (place_of word funcs); var = place_of word vars; name = place_of word names }) (sym (place_of-added word text classes e absent))
        | inr e ↦
            set_to word ∙ ap (λ b. cond b value (found_in m word)) e ∙ agrees word
            ∙ ap (λ (o : Option ℕ). record { class = option_map class_number o; func = option_map func_number (place_of word funcs); var = place_of word vars; name = place_of word names }) (sym (place_of-other word text classes (apart word text e)))
      ]

  -- one more function
  pub with_func : (classes funcs vars names : List (List ℕ)) → ((word : List ℕ) → found_in m word ≡ meaning_among classes funcs vars names word) → value ≡ record (meaning_among classes funcs vars names text) { func = Some (func_number (length funcs)) } → place_of text funcs ≡ None
      → (word : List ℕ) → found_in n word ≡ meaning_among classes (funcs ++ text ∷ []) vars names word
  with_func classes funcs vars names agrees is absent word =
      elim (cases_Bool (bytes_eq text word)) [
        | inl e ↦
            let same = (bytes_eq-Decides text word).0 e in
            set_to word ∙ ap (λ b. cond b value (found_in m word)) e ∙ is
            ∙ ap (λ (w : List ℕ). record { class = option_map class_number (place_of w classes); func = Some (func_number (length funcs)); var = place_of w vars; name = place_of w names }) same
            ∙ ap (λ (o : Option ℕ). record { class = option_map class_number (place_of word classes); func = option_map func_number o; var = place_of word vars; name = place_of word names }) (sym (place_of-added word text funcs e absent))
        | inr e ↦
            set_to word ∙ ap (λ b. cond b value (found_in m word)) e ∙ agrees word
            ∙ ap (λ (o : Option ℕ). record { class = option_map class_number (place_of word classes); func = option_map func_number o; var = place_of word vars; name = place_of word names }) (sym (place_of-other word text funcs (apart word text e)))
      ]

  -- one more variable
  pub with_var : (classes funcs vars names : List (List ℕ)) → ((word : List ℕ) → found_in m word ≡ meaning_among classes funcs vars names word) → value ≡ record (meaning_among classes funcs vars names text) { var = Some (length vars) } → place_of text vars ≡ None
      → (word : List ℕ) → found_in n word ≡ meaning_among classes funcs (vars ++ text ∷ []) names word
  with_var classes funcs vars names agrees is absent word =
      elim (cases_Bool (bytes_eq text word)) [
        | inl e ↦
            let same = (bytes_eq-Decides text word).0 e in
            set_to word ∙ ap (λ b. cond b value (found_in m word)) e ∙ is
            ∙ ap (λ (w : List ℕ). record { class = option_map class_number (place_of w classes); func = option_map func_number (place_of w funcs); var = Some (length vars); name = place_of w names }) same
            ∙ ap (λ (o : Option ℕ). record { class = option_map class_number (place_of word classes); func = option_map func_number (place_of word funcs); var = o; name = place_of word names }) (sym (place_of-added word text vars e absent))
        | inr e ↦
            set_to word ∙ ap (λ b. cond b value (found_in m word)) e ∙ agrees word
            ∙ ap (λ (o : Option ℕ). record { class = option_map class_number (place_of word classes); func = option_map func_number (place_of word funcs); var = o; name = place_of word names }) (sym (place_of-other word text vars (apart word text e)))
      ]

  -- one more name
  pub with_name : (classes funcs vars names : List (List ℕ)) → ((word : List ℕ) → found_in m word ≡ meaning_among classes funcs vars names word) → value ≡ record (meaning_among classes funcs vars names text) { name = Some (length names) } → place_of text names ≡ None
      → (word : List ℕ) → found_in n word ≡ meaning_among classes funcs vars (names ++ text ∷ []) word
  with_name classes funcs vars names agrees is absent word =
      elim (cases_Bool (bytes_eq text word)) [
        | inl e ↦
            let same = (bytes_eq-Decides text word).0 e in
            set_to word ∙ ap (λ b. cond b value (found_in m word)) e ∙ is
            ∙ ap (λ (w : List ℕ). record { class = option_map class_number (place_of w classes); func = option_map func_number (place_of w funcs); var = place_of w vars; name = Some (length names) }) same
            ∙ ap (λ (o : Option ℕ). record { class = option_map class_number (place_of word classes); func = option_map func_number (place_of word funcs); var = place_of word vars; name = o }) (sym (place_of-added word text names e absent))
        | inr e ↦
            set_to word ∙ ap (λ b. cond b value (found_in m word)) e ∙ agrees word
            ∙ ap (λ (o : Option ℕ). record { class = option_map class_number (place_of word classes); func = option_map func_number (place_of word funcs); var = place_of word vars; name = o }) (sym (place_of-other word text names (apart word text e)))
      ]

pub unmapped : {A B : Type 0} (f : A → B) (o : Option A) → is_some (option_map f o) ≡ false → o ≡ None
unmapped f None h = refl
unmapped f (Some x) h = cc

-- the list with one more reference, by what it leads to
pub now_added : (old new : List (Bor (List ℕ))) (text : Bor (List ℕ)) → new ≡ old ++ text ∷ [] → map now_of new ≡ map now_of old ++ text.now ∷ []
now_added old new text e = ap (map now_of) e ∙ map-append now_of old (text ∷ [])

-- How many texts there are, where each has a small number.

-- a text that stands there stands where it did among more
pub number_stays : (word : List ℕ) (texts : List (List ℕ)) (more : List (List ℕ)) → position_or_len (bytes_eq word) texts < length texts → position_or_len (bytes_eq word) (with_texts texts more) ≡ position_or_len (bytes_eq word) texts
number_stays word texts [] there = refl
number_stays word texts (text ∷ more) there =
    elim (is_some (place_of text texts)) as (λ b. position_or_len (bytes_eq word) (with_texts (cond b texts (texts ++ text ∷ [])) more) ≡ position_or_len (bytes_eq word) texts) [
      | true ↦ number_stays word texts more there
      | false ↦
          let push = position_or_len_push (bytes_eq word) texts text in
          let same : position_or_len (bytes_eq word) (texts ++ text ∷ []) ≡ position_or_len (bytes_eq word) texts =
          push ∙ ap (λ b. cond b (length texts + cond (bytes_eq word text) 0 1) (position_or_len (bytes_eq word) texts)) (ne_eqb (position_or_len (bytes_eq word) texts) (length texts) (λ e. absurd (omega arith))) in
          number_stays word (texts ++ text ∷ []) more (omega (arith, length-append texts (text ∷ []))) ∙ same
    ]

-- each of these stands below a place in the texts
abbrev pub EachBelow : ℕ → List (List ℕ) → List (List ℕ) → Type 0
EachBelow most texts [] = Unit {0}
EachBelow most texts (word ∷ words) = (position_or_len (bytes_eq word) texts < most) × EachBelow most texts words

absent_at : (word : List ℕ) (texts : List (List ℕ)) → is_some (place_of word texts) ≡ false → length texts ≤ position_or_len (bytes_eq word) texts
absent_at word texts h = none_at (position_or_len (bytes_eq word) texts) (length texts) (unmapped (λ (n : ℕ). n) (place_of word texts) (same (place_of word texts) h))
  where
    same : (o : Option ℕ) → is_some o ≡ false → is_some (option_map (λ (n : ℕ). n) o) ≡ false
    same None e = refl
    same (Some n) e = e

-- where each text that is added has a small number in the end, there are few
pub few_of : (most : ℕ) (texts words : List (List ℕ)) → length texts ≤ most → EachBelow most (with_texts texts words) words → length (with_texts texts words) ≤ most
few_of most texts [] small each = small
few_of most texts (word ∷ words) small each =
    elim (is_some (place_of word texts)) as (λ b. is_some (place_of word texts) ≡ b → EachBelow most (with_texts (cond b texts (texts ++ word ∷ [])) words) (word ∷ words) → length (with_texts (cond b texts (texts ++ word ∷ [])) words) ≤ most) [
      | true ↦ λ is each. few_of most texts words small each.1
      | false ↦ λ is each.
          let at_least = absent_at word texts is in
          let within = place_within (bytes_eq word) texts in
          let long : length (texts ++ word ∷ []) ≡ length texts + 1 = length-append texts (word ∷ []) in
          let at_end : position_or_len (bytes_eq word) (texts ++ word ∷ []) ≡ length texts =
          position_or_len_push (bytes_eq word) texts word
          ∙ ap (λ b. cond b (length texts + cond (bytes_eq word word) 0 1) (position_or_len (bytes_eq word) texts)) (eq-eqb (position_or_len (bytes_eq word) texts) (length texts) (omega arith))
          ∙ ap (λ b. length texts + cond b 0 1) (nat_list_eq_equiv.refl word)
          ∙ (let e : length texts + 0 ≡ length texts = omega arith in e) in
          let stays = number_stays word (texts ++ word ∷ []) words (omega arith) in
          let below = each.0 in
          few_of most (texts ++ word ∷ []) words (omega arith) each.1
    ] refl each
