-- Words that are the decimal text of a number.
use Rattle.std.proofs.Common.{◌≡◌, ◌∙◌, ap, refl, sym, subst, ℕ, ◌==◌, ◌<◌, ◌^◌, List, [], ◌∷◌, arith, true, false, cond, not, ◌&&◌, ◌||◌, bytes_eq, codes, ℤ, pos, negsuc, lit<, inl, inr, Option, Some, None, Result, Ok, Err, Bor}
use Rattle.std.specs.List.{list_all}
use Rattle.std.specs.Char.{digit_value}
use Rattle.std.specs.Str.{IsAscii, IsUtf8}
use Rattle.std.specs.Str.Parse.{AllDigits, IsNumeral, ParsesSigned, signed_digits_value, without_leading_sign}
use Rattle.std.proofs.lemmas.Str.{IsUtf8-from_ascii}
use Rattle.std.proofs.lemmas.Str.Ascii.{IsAscii-nil, IsAscii-cons}
use Rattle.std.proofs.lemmas.Bool.{cases_Bool, false_from_ne_true}
use Rattle.std.proofs.lemmas.Bool.Decides.{nat_tests}
use Rattle.std.proofs.lemmas.Slice.Eq.{bytes_eq-Decides}
use Rattle.std.specs.Prelude.{MatchResult}
use Rattle.std.specs.Result.{result_ok}
use Rattle.std.proofs.lemmas.Option.{same_Some}
use Rattle.std.specs.Int.Signed.{mag}
use mir.Syntax.{w32}
use mir.Val.{SFits}
use borrow.Author.Rules.{sfits_of}
use Rattle.at_script.proofs.Ascii.{and-true}
use Rattle.at_script.specs.Words.{is_digit, is_positive, is_negative, is_number, is_in_range}

digit_is : (c : ℕ) → is_digit c ≡ true → digit_value c < 10
digit_is c h = grind (arith, nat_tests)

digit_ascii : (c : ℕ) → is_digit c ≡ true → c < 128
digit_ascii c h = grind (arith, nat_tests)

all_digits : (ds : List ℕ) → list_all is_digit ds ≡ true → AllDigits 10 ds
all_digits [] h = tt
all_digits (d ∷ ds) h = let k = and-true (is_digit d) (list_all is_digit ds) h in (digit_is d k.0, all_digits ds k.1)

all_ascii : (ds : List ℕ) → list_all is_digit ds ≡ true → IsAscii ds
all_ascii [] h = IsAscii-nil
all_ascii (d ∷ ds) h = let k = and-true (is_digit d) (list_all is_digit ds) h in IsAscii-cons d ds (digit_ascii d k.0) (all_ascii ds k.1)

-- the parts of digits of which the first isn't `0`
positive_parts : (d : ℕ) (ds : List ℕ) → is_positive (d ∷ ds) ≡ true → (is_digit d ≡ true) × (list_all is_digit ds ≡ true)
positive_parts d ds h =
    let k = and-true (is_digit d && not (d == 48)) (list_all is_digit ds) h in
    ((and-true (is_digit d) (not (d == 48)) k.0).0, k.1)

numeral_positive : (ds : List ℕ) → is_positive ds ≡ true → IsNumeral 10 ds
numeral_positive [] h = cc
numeral_positive (d ∷ ds) h = let k = positive_parts d ds h in (omega arith, (digit_is d k.0, all_digits ds k.1))

ascii_positive : (ds : List ℕ) → is_positive ds ≡ true → IsAscii ds
ascii_positive [] h = cc
ascii_positive (d ∷ ds) h = let k = positive_parts d ds h in IsAscii-cons d ds (digit_ascii d k.0) (all_ascii ds k.1)

no_minus : (d : ℕ) → is_digit d ≡ true → (d == 45) ≡ false
no_minus d h = grind (arith, nat_tests)

no_plus : (d : ℕ) → is_digit d ≡ true → (d == 43) ≡ false
no_plus d h = grind (arith, nat_tests)

unsigned : (ds : List ℕ) → is_positive ds ≡ true → without_leading_sign ds ≡ ds
unsigned [] h = cc
unsigned (d ∷ ds) h =
    let k = positive_parts d ds h in
    rw (no_minus d k.0, no_plus d k.0) refl

-- the three forms
number_cases : (word : List ℕ) (P : Type 0) → is_number word ≡ true → (word ≡ codes "0" → P) → (is_positive word ≡ true → P) → (is_negative word ≡ true → P) → P
number_cases word P h zero positive negative =
    elim (cases_Bool (bytes_eq word (codes "0"))) [
      | inl e ↦ zero ((bytes_eq-Decides word (codes "0")).0 e)
      | inr e ↦ elim (cases_Bool (is_positive word)) [
        | inl p ↦ positive p
        | inr p ↦ negative (let k : (bytes_eq word (codes "0") || is_positive word || is_negative word) ≡ is_negative word = rw (e, p) refl in sym k ∙ h)
      ]
    ]

negative_parts : (d : ℕ) (ds : List ℕ) → is_negative (d ∷ ds) ≡ true → (d ≡ 45) × (is_positive ds ≡ true)
negative_parts d ds h = let k = and-true (d == 45) (is_positive ds) h in (grind (arith, nat_tests, k.0), k.1)

numeral_negative : (word : List ℕ) → is_negative word ≡ true → IsNumeral 10 (without_leading_sign word)
numeral_negative [] h = cc
numeral_negative (d ∷ ds) h =
    let k = negative_parts d ds h in
    let P : ℕ → Type 0 = λ c. IsNumeral 10 (without_leading_sign (c ∷ ds)) in
    subst P (sym k.0) (numeral_positive ds k.1)

ascii_negative : (word : List ℕ) → is_negative word ≡ true → IsAscii word
ascii_negative [] h = cc
ascii_negative (d ∷ ds) h = let k = negative_parts d ds h in IsAscii-cons d ds (let e = k.0 in omega arith) (ascii_positive ds k.1)

zero_numeral : IsNumeral 10 (without_leading_sign (codes "0"))
zero_numeral = (lit< tt, (lit< tt, tt))

pub numeral_in : (word : List ℕ) → is_number word ≡ true → IsNumeral 10 (without_leading_sign word)
numeral_in word h =
    number_cases word (IsNumeral 10 (without_leading_sign word)) h
    (λ e. let P : List ℕ → Type 0 = λ w. IsNumeral 10 (without_leading_sign w) in subst P (sym e) zero_numeral)
    (λ p. let P : List ℕ → Type 0 = λ w. IsNumeral 10 w in subst P (sym (unsigned word p)) (numeral_positive word p))
    (numeral_negative word)

pub utf8_in : (word : List ℕ) → is_number word ≡ true → IsUtf8 word
utf8_in word h =
    IsUtf8-from_ascii word (number_cases word (IsAscii word) h (λ e. subst IsAscii (sym e) (IsAscii-cons 48 [] (lit< tt) IsAscii-nil)) (ascii_positive word) (ascii_negative word))

pub in_range_from : (z : ℤ) → mag z < 2 ^ 31 → is_in_range z ≡ true
in_range_from (pos n) h = grind (arith, nat_tests)
in_range_from (negsuc n) h = grind (arith, nat_tests)

pub small_from : (z : ℤ) → is_in_range z ≡ true → mag z < 2 ^ 31
small_from (pos n) h = grind (arith, nat_tests)
small_from (negsuc n) h = grind (arith, nat_tests)

-- What `parse` gives of such a word.

abbrev if_in_range : ℤ → Option ℤ
if_in_range z = cond (is_in_range z) (Some z) None

pub parsed : {E : Type 0} (word : List ℕ) (r : Result ℤ E) → is_number word ≡ true → ParsesSigned w32 10 word r → result_ok r ≡ if_in_range (signed_digits_value 10 word)
parsed word (Ok x) form h =
    let z = signed_digits_value 10 word in
    let fits : SFits w32 z = h.0.1 in
    let within = in_range_from z fits.sfits in
    ap Some h.1 ∙ sym (ap (λ b. cond b (Some z) None) within)
parsed word (Err e) form h =
    let z = signed_digits_value 10 word in
    let outside = false_from_ne_true (is_in_range z) (λ t. h (numeral_in word form, sfits_of (small_from z t))) in
    sym (ap (λ b. cond b (Some z) None) outside)

-- the text that was read is the word
pub read_as : {E : Type 0} (word : List ℕ) (r : Result (Bor (List ℕ)) E) (Q : E → Type 0) (s : Bor (List ℕ)) → MatchResult r (λ s. (s.now ≡ word) × IsUtf8 word) (λ e. ¬ (IsUtf8 word) × Q e) → result_ok r ≡ Some s → s.now ≡ word
read_as word (Ok t) Q s h e = ap (λ (b : Bor (List ℕ)). b.now) (sym (same_Some t s e)) ∙ h.0
read_as word (Err f) Q s h e = cc

-- and it was read
pub is_read : {E : Type 0} (word : List ℕ) (r : Result (Bor (List ℕ)) E) (Q : E → Type 0) → is_number word ≡ true → MatchResult r (λ s. (s.now ≡ word) × IsUtf8 word) (λ e. ¬ (IsUtf8 word) × Q e) → result_ok r ≡ None → ⊥
is_read word (Ok t) Q form h e = cc
is_read word (Err f) Q form h e = h.0 (utf8_in word form)
