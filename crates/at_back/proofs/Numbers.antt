-- Words that are the decimal text of a number.
use Rattle.std.proofs.Common.{◌≡◌, ◌∙◌, ap, refl, sym, subst, ℕ, zero, suc, ◌<◌, ◌≤◌, ◌^◌, ◌==◌, nat_lt, arith, List, [], ◌∷◌, length, get_or, slice_index, drop, true, false, cond, ◌&&◌, bytes_eq, decimal, Option, Some, None, Result, Ok, Err, inl, inr, true≢false, Bool}
use Rattle.std.specs.List.{list_all}
use Rattle.std.specs.Result.{result_ok}
use Rattle.std.specs.Str.Parse.{AllDigits, IsNumeral, ParsesUnsigned, digits_value, without_leading_plus}
use Rattle.std.proofs.lemmas.Bool.{cases_Bool, ltb-true, ltb-false, lt-ltb, le-ltb, eqb-true, eq-eqb}
use Rattle.std.proofs.lemmas.Bool.Decides.{nat_tests}
use Rattle.std.proofs.lemmas.Fmt.{decimal_is_IsNumeral, decimal-digits_value, decimal_digit, first_decimal}
use Rattle.std.proofs.lemmas.Slice.Eq.{bytes_eq-Decides}
use Rattle.std.proofs.lemmas.Str.Parse.{IsNumeralModel}
use Rattle.at_script.specs.Literals.{◌>>=◌}
use Rattle.at_script.specs.Words.{continues_identifier}
use Rattle.at_text.specs.Readers.{run, number_of, number_below}
use Rattle.at_back.specs.Left.{leads_zero}
use Rattle.at_back.proofs.Runs.{run_continues}

abbrev within : ℕ → ℕ → Option ℕ
within bound n = cond (nat_lt n bound) (Some n) None

-- the word is the decimal text of a number below the bound, or it isn't
below_cases : (bound : ℕ) (word : List ℕ) (P : Option ℕ → Type 0) → (word ≡ decimal (digits_value 10 word) → digits_value 10 word < bound → P (Some (digits_value 10 word)))
    → ((word ≡ decimal (digits_value 10 word) → digits_value 10 word < bound → ⊥) → P None) → P (number_below bound word)
below_cases bound word P some none =
    let v = digits_value 10 word in
    let told : ℕ → Option ℕ = within bound in
    elim (cases_Bool (bytes_eq word (decimal v))) [
      | inl e ↦
          elim (cases_Bool (nat_lt v bound)) [
            | inl l ↦
                subst P (sym (ap (λ b. cond b (Some v) None >>= told) e ∙ ap (λ b. cond b (Some v) None) l))
                (some ((bytes_eq-Decides word (decimal v)).0 e) (ltb-true v bound l))
            | inr l ↦
                subst P (sym (ap (λ b. cond b (Some v) None >>= told) e ∙ ap (λ b. cond b (Some v) None) l))
                (none (λ w h. let g = ltb-false v bound l in omega arith))
          ]
      | inr e ↦
          subst P (sym (ap (λ b. cond b (Some v) None >>= told) e))
          (none (λ w h. true≢false (sym ((bytes_eq-Decides word (decimal v)).1 w) ∙ e)))
    ]

zero_leads : (v : ℕ) (word : List ℕ) → word ≡ decimal v → v < 2 ^ 64 → 1 < length word → get_or word 0 0 ≡ 48 → ⊥
zero_leads zero word e h long z = let l : length word ≡ 1 = ap length (e ∙ decimal_digit 0 (omega arith)) in omega arith
zero_leads (suc n) word e h long z =
    let f = first_decimal (suc n) (omega arith) h in
    let g : get_or word 0 0 ≡ get_or (decimal (suc n)) 0 0 = ap (λ w. get_or w 0 0) e in
    omega arith

-- no number has a leading zero
pub no_leading_zero : (word : List ℕ) → 1 < length word → get_or word 0 0 ≡ 48 → number_below (2 ^ 64) word ≡ None
no_leading_zero word long z =
    below_cases (2 ^ 64) word (λ o. o ≡ None) (λ e h. absurd (zero_leads (digits_value 10 word) word e h long z)) (λ other. refl)

own : IsNumeralModel (AllDigits 10) (digits_value 10)
own = record {
  to = λ ds h. h;
  from = λ ds h. h;
  same = λ ds h. refl;
}

plus-no : (c : ℕ) → continues_identifier c ≡ true → (c == 43) ≡ false
plus-no c h = grind (arith, nat_tests)

front-true : (a b : Bool) → (a && b) ≡ true → a ≡ true
front-true true b h = refl
front-true false b h = cc

no_plus : (word : List ℕ) → list_all continues_identifier word ≡ true → without_leading_plus word ≡ word
no_plus [] h = refl
no_plus (c ∷ word) h = ap (λ b. drop (cond b 1 0) (c ∷ word)) (plus-no c (front-true (continues_identifier c) (list_all continues_identifier word) h))

read_in : {E : Type 0} (word : List ℕ) (r : Result ℕ E) → without_leading_plus word ≡ word → (get_or word 0 0 ≡ 48 → length word ≡ 1) → ParsesUnsigned 64 10 word r → result_ok r ≡ number_below (2 ^ 64) word
read_in word (Ok x) plain first h =
    let v = digits_value 10 word in
    let numeral : IsNumeral 10 word = subst (λ w. IsNumeral 10 w) plain h.0.0 in
    let small : v < 2 ^ 64 = subst (λ w. digits_value 10 w < 2 ^ 64) plain h.0.1 in
    let same : x ≡ v = h.1 ∙ ap (digits_value 10) plain in
    below_cases (2 ^ 64) word (λ o. Some x ≡ o) (λ e l. ap Some same)
    (λ other. absurd (other (sym (decimal-digits_value own word numeral.1 numeral.0 first small)) small))
read_in word (Err f) plain first h =
    below_cases (2 ^ 64) word (λ o. None ≡ o)
    (λ e l.
    let numeral : IsNumeral 10 word = subst (λ w. IsNumeral 10 w) (sym e) (decimal_is_IsNumeral (digits_value 10 word) l).0 in
    absurd (h (subst (λ w. IsNumeral 10 w) (sym plain) numeral, subst (λ w. digits_value 10 w < 2 ^ 64) (sym plain) l)))
    (λ other. refl)

-- what `parse` gives of a word that has no leading zero
pub parsed : {E : Type 0} (word : List ℕ) (r : Result ℕ E) → run word ≡ word → (get_or word 0 0 ≡ 48 → length word ≤ 1) → ParsesUnsigned 64 10 word r → result_ok r ≡ number_below (2 ^ 64) word
parsed word r letters first h =
    read_in word r (no_plus word (subst (λ w. list_all continues_identifier w ≡ true) letters (run_continues word))) (one_zero word first) h
  where
    one_zero : (w : List ℕ) → (get_or w 0 0 ≡ 48 → length w ≤ 1) → get_or w 0 0 ≡ 48 → length w ≡ 1
    one_zero [] f z = absurd (omega arith)
    one_zero (c ∷ w) f z = let k = f z in omega arith

leads-parts : (a b : Bool) → (a && b) ≡ true → (a ≡ true) × (b ≡ true)
leads-parts true b h = (refl, h)
leads-parts false b h = cc

pub leading_none : (word : List ℕ) → leads_zero word ≡ true → number_below (2 ^ 64) word ≡ None
leading_none word h =
    let k = leads-parts (nat_lt 1 (length word)) (slice_index word 0 == 48) h in
    no_leading_zero word (ltb-true 1 (length word) k.0) (eqb-true (slice_index word 0) 48 k.1)

pub parsed_plain : {E : Type 0} (word : List ℕ) (r : Result ℕ E) → run word ≡ word → leads_zero word ≡ false → ParsesUnsigned 64 10 word r → result_ok r ≡ number_below (2 ^ 64) word
parsed_plain word r letters h = parsed word r letters (λ z.
    elim (cases_Bool (nat_lt 1 (length word))) [
      | inl e ↦
          let other : (slice_index word 0 == 48) ≡ false = sym (ap (λ b. b && slice_index word 0 == 48) e) ∙ h in
          absurd (true≢false (sym (eq-eqb (slice_index word 0) 48 z) ∙ other))
      | inr e ↦ ltb-false 1 (length word) e
    ])

-- Narrower bounds

pub told_below : (bound : ℕ) (word : List ℕ) (n : ℕ) → number_below (2 ^ 64) word ≡ Some n → n < bound → number_below bound word ≡ Some n
told_below bound word n h l = ap (λ (o : Option ℕ). o >>= within bound) (of_within (number_of word) n h) ∙ ap (λ b. cond b (Some n) None) (lt-ltb n bound l)
  where
    of_within : (o : Option ℕ) (n : ℕ) → (o >>= within (2 ^ 64)) ≡ Some n → o ≡ Some n
    of_within None n h = cc
    of_within (Some m) n h =
        elim (nat_lt m (2 ^ 64)) as (λ b. cond b (Some m) None ≡ Some n → Some m ≡ Some n) [
          | true ↦ λ h. h
          | false ↦ λ h. cc
        ] h

pub told_above : (bound : ℕ) (word : List ℕ) (n : ℕ) → number_below (2 ^ 64) word ≡ Some n → bound ≤ n → number_below bound word ≡ None
told_above bound word n h l = over (number_of word) h
  where
    over : (o : Option ℕ) → (o >>= within (2 ^ 64)) ≡ Some n → (o >>= within bound) ≡ None
    over None h = refl
    over (Some m) h =
        elim (cases_Bool (nat_lt m (2 ^ 64))) [
          | inl e ↦
              let same : Some m ≡ Some n = sym (ap (λ b. cond b (Some m) None) e) ∙ h in
              let equal : m ≡ n = cc in
              ap (λ b. cond b (Some m) None) (le-ltb m bound (omega arith))
          | inr e ↦ let none : None ≡ Some n = sym (ap (λ b. cond b (Some m) None) e) ∙ h in cc
        ]

pub told_none : (bound : ℕ) (word : List ℕ) → bound ≤ 2 ^ 64 → number_below (2 ^ 64) word ≡ None → number_below bound word ≡ None
told_none bound word l h = none (number_of word) h
  where
    none : (o : Option ℕ) → (o >>= within (2 ^ 64)) ≡ None → (o >>= within bound) ≡ None
    none None h = refl
    none (Some m) h =
        elim (cases_Bool (nat_lt m (2 ^ 64))) [
          | inl e ↦ let some : Some m ≡ None = sym (ap (λ b. cond b (Some m) None) e) ∙ h in cc
          | inr e ↦ let big = ltb-false m (2 ^ 64) e in ap (λ b. cond b (Some m) None) (le-ltb m bound (omega arith))
        ]
