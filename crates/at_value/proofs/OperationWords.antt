-- Bases in words, and the words of an operation read back.
use Rattle.std.proofs.Common.{ℕ, zero, suc, ◌≢◌, inl, inr, ◌≡◌, ◌<◌, ◌≤◌, ◌+◌, ◌*◌, ◌^◌, ◌/◌, ◌%◌, ◌-◌, ◌↔◌, nat_le, true, List, [], ◌∷◌, ◌++◌, length, map, take, drop, get_or, Option, Some, None, ap, sym, subst, refl, ◌∙◌, arith, append_assoc, drop-cons, take-append-drop, length-append, length-drop}
use Rattle.std.specs.Prelude.{option_map, min, Result, Ok, Err, OnOk, OnErr}
use Rattle.std.proofs.lemmas.Bool.Decides.{nat_tests}
use Rattle.std.proofs.lemmas.Nat.{mul-add-lt, shr_high, mod_low, pow-add}
use Rattle.std.proofs.Math.Nat.{mul-le-mul_left, le_trans, mul_comm, min_comm, min-eq_left, min-eq_right, min-le_left}
use Rattle.std.proofs.Math.Pow.{pow_mono}
use Rattle.std.proofs.lemmas.List.{length-take}
use Rattle.std.proofs.lemmas.Bool.{cases_lt}
use Rattle.std.proofs.lemmas.List.{get_or_default}
use Rattle.at_value.specs.declared.value.Value as value
use Rattle.at_value.specs.declared.operation.Op as op
use Rattle.at_value.specs.declared.operation.Op.TheVariants as ops
use Rattle.at_value.specs.Classes.{AreClasses}
use Rattle.at_value.specs.Widths.{classes, most_bases, operation_bits, subject_bits, second_bits, attribute_bits, base_bits, bases_a_word, bases_words}
use Rattle.at_value.specs.Words.{IsValue, word_of}
use Rattle.at_value.specs.Fields.{number_of, bits_of, AreWithin, FitWord, FitWords}
use Rattle.at_value.specs.Packing.{IsBases, IsOp, heading_fields, row_fields, rows_fields, bases_fields, words_fields, words_of, HasWords}
use Rattle.at_value.specs.Reading.{below, value_in_word}
use Rattle.at_value.proofs.Words.{below_gives, word_exact, value_fits}
use Rattle.at_value.specs.ReadingOps.{with_two, classes_of_word, classes_of_words, bases_from, heading_at, op_at}

-- One more number goes into the lowest bits: the word stays within the bits of all.
pub word_grows : (width k word c : ℕ) → word < 2 ^ (width * k) → c < 2 ^ width → word * 2 ^ width + c < 2 ^ (width * suc k)
word_grows width k word c small lt =
    let more : width * suc k ≡ width * k + width = omega arith in
    let power : 2 ^ (width * suc k) ≡ 2 ^ (width * k) * 2 ^ width = ap (λ n. 2 ^ n) more ∙ pow-add 2 (width * k) width in
    let below_power : word * 2 ^ width + c < 2 ^ width * 2 ^ (width * k) = mul-add-lt word (2 ^ width) c (2 ^ (width * k)) small lt in
    rw (power, mul_comm (2 ^ (width * k)) (2 ^ width)) below_power

-- one more number in the word of those that follow it
pub base_put : (width : ℕ) (bases : List ℕ) (old i word c d : ℕ) → old ≡ suc i → old ≤ length bases → word < 2 ^ (width * (length bases - old))
    → word ≡ number_of (row_fields width (drop old bases)) → c ≡ get_or bases i d → c < 2 ^ width
    → (word * 2 ^ width + c < 2 ^ (width * (length bases - i))) × (word * 2 ^ width + c ≡ number_of (row_fields width (drop i bases)))
base_put width bases old i word c d e in_list small was here base =
    let in_list' : i < length bases = omega arith in
    let more : suc (length bases - old) ≡ length bases - i = omega arith in
    let grown = word_grows width (length bases - old) word c small base in
    let was' : word ≡ number_of (row_fields width (drop (suc i) bases)) = rw e at was in
    let prefix = drop-cons bases i d in_list' in
    (rw more at grown, rw (prefix, ← was', here) refl)

-- a word of fewer numbers than fit into it has room for one more
pub room_for_one : (width k most word : ℕ) → suc k ≤ most → width * most ≤ 64 → word < 2 ^ (width * k) → word < 2 ^ (64 - width)
room_for_one width k most word few fits small =
    let all : width * suc k ≤ 64 = le_trans (mul-le-mul_left width few) fits in
    let more : width * suc k ≡ width * k + width = omega arith in
    let le : width * k ≤ 64 - width = omega arith in
    let powers = pow_mono le in
    omega arith

-- the numbers before it are classes, and those after them
are_classes_before : (n : ℕ) (bases : List ℕ) → AreClasses bases → AreClasses (take n bases)
are_classes_before zero bases h i = omega arith
are_classes_before (suc n) [] h i = omega arith
are_classes_before (suc n) (c ∷ cs) h zero = h 0
are_classes_before (suc n) (c ∷ cs) h (suc i) = are_classes_before n cs (λ j. h (suc j)) i

are_classes_after : (n : ℕ) (bases : List ℕ) → AreClasses bases → AreClasses (drop n bases)
are_classes_after zero bases h = h
are_classes_after (suc n) [] h = h
are_classes_after (suc n) (c ∷ cs) h = are_classes_after n cs (λ j. h (suc j))

-- all are classes, where those before it are and those after them
pub are_classes_both : (n : ℕ) (bases : List ℕ) → AreClasses (take n bases) → AreClasses (drop n bases) → AreClasses bases
are_classes_both zero bases prefix after i = after i
are_classes_both (suc n) [] prefix after i = after i
are_classes_both (suc n) (c ∷ cs) prefix after zero = prefix 0
are_classes_both (suc n) (c ∷ cs) prefix after (suc i) = are_classes_both n cs (λ j. prefix (suc j)) after i

-- each number from there on is a class
pub classes_grow : (bases : List ℕ) (old i c d : ℕ) → old ≡ suc i → c ≡ get_or bases i d → c < classes → old ≤ length bases
    → ((j : ℕ) → old ≤ j → get_or bases j 0 < classes) → (j : ℕ) → i ≤ j → get_or bases j 0 < classes
classes_grow bases old i c d e here base in_list rest j from =
    elim (cases_lt i j) [
      | inl lt ↦ rest j (omega arith)
      | inr ge ↦ let same : j ≡ i = omega arith in let read : get_or bases j 0 ≡ c = rw same (get_or_default bases i 0 d (omega arith) ∙ sym here) in omega arith
    ]

at_most : (m n : ℕ) → m ≤ n → nat_le m n ≡ true
at_most m n h = grind (arith, nat_tests)

-- one more base, read before those that are left
joined_base : (done : List ℕ) (c : ℕ) (left : Option (List ℕ))
    → option_map (λ more. (done ++ c ∷ []) ++ more) left ≡ option_map (λ more. done ++ more) (with_two (λ b bs. b ∷ bs) (Some c) left)
joined_base done c None = refl
joined_base done c (Some more) = ap Some (append_assoc done (c ∷ []) more)

-- a class that is read goes to the end of those that were read
pub base_read : (width left n word low above c : ℕ) (done all : List ℕ) (o : Option (List ℕ)) → left ≡ suc n → low ≡ word % 2 ^ width → above ≡ word / 2 ^ width
    → below classes low ≡ Some c → all ≡ done ++ c ∷ []
    → option_map (λ more. done ++ more) (classes_of_word width left word) ≡ o → option_map (λ more. all ++ more) (classes_of_word width n above) ≡ o
base_read width left n word low above c done all o e is_low is_above class grown was =
    let now : option_map (λ more. done ++ more) (classes_of_word width (suc n) word) ≡ o = rw e at was in
    let read : below classes (word % 2 ^ width) ≡ Some c = rw is_low at class in
    let now' : option_map (λ more. done ++ more) (with_two (λ b bs. b ∷ bs) (Some c) (classes_of_word width n (word / 2 ^ width))) ≡ o = rw read at now in
    rw (grown, is_above) (joined_base done c (classes_of_word width n (word / 2 ^ width)) ∙ now')

-- what holds of a success, where what holds of an error is false
pub ok_of : {A E P Q : Type 0} (r : Result A E) → OnOk r P → OnErr r Q → ¬ Q → P
ok_of (Ok x) ok full none = ok
ok_of (Err e) ok full none = absurd (none full)

-- a row of classes, read before the rows that are left
joined_rows : (done row : List ℕ) (left : Option (List ℕ))
    → option_map (λ more. (done ++ row) ++ more) left ≡ option_map (λ more. done ++ more) (with_two (λ prefix rest. prefix ++ rest) (Some row) left)
joined_rows done row None = refl
joined_rows done row (Some more) = ap Some (append_assoc done row more)

-- no more is left out than there is
less_min : (left each : ℕ) → left - min left each ≡ left - each
less_min left each =
    elim (cases_lt left each) [
      | inl lt ↦ let all = min-eq_left (let le : left ≤ each = omega arith in le) in rw all (omega arith)
      | inr ge ↦ let each_of = min-eq_right ge in rw each_of refl
    ]

-- as many as were asked for are read
classes_of_word_length : (width n word : ℕ) (row : List ℕ) → classes_of_word width n word ≡ Some row → length row ≡ n
classes_of_word_length width zero word row e = let same : [] ≡ row = cc in rw (← same) refl
classes_of_word_length width (suc n) word row e = elim (below classes (word % 2 ^ width)) as (λ first. with_two (λ c cs. c ∷ cs) first (classes_of_word width n (word / 2 ^ width)) ≡ Some row → length row ≡ suc n) [
  | None ↦ λ e. absurd (cc)
  | Some c ↦ λ e. elim (classes_of_word width n (word / 2 ^ width)) as (λ rest. classes_of_word width n (word / 2 ^ width) ≡ rest → with_two (λ c cs. c ∷ cs) (Some c) rest ≡ Some row → length row ≡ suc n) [
    | None ↦ λ _ e. absurd (cc)
    | Some cs ↦ λ here e.
        let same : c ∷ cs ≡ row = cc in
        rw (← same) (ap suc (classes_of_word_length width n (word / 2 ^ width) cs here))
  ] refl e
] e

-- a row that is read goes after the classes that were read
pub row_read : (width each left here word : ℕ) (words all_words done all : List ℕ) (o : Option (List ℕ)) → here ≡ min left each → all_words ≡ word ∷ words
    → option_map (λ row. done ++ row) (classes_of_word width here word) ≡ Some all
    → option_map (λ more. done ++ more) (classes_of_words width each left all_words) ≡ o
    → (length all + (left - here) ≡ length done + left) × (option_map (λ more. all ++ more) (classes_of_words width each (left - here) words) ≡ o)
row_read width each left here word words all_words done all o is_here is_all grown was =
    let within : here ≤ left = rw is_here (min-le_left left each) in
    let left_over : left - here ≡ left - each = rw is_here (less_min left each) in
    let was' : option_map (λ more. done ++ more) (with_two (λ prefix rest. prefix ++ rest) (classes_of_word width here word) (classes_of_words width each (left - each) words)) ≡ o = rw is_here (rw is_all at was) in
    elim (classes_of_word width here word) as (λ read. classes_of_word width here word ≡ read → option_map (λ row. done ++ row) read ≡ Some all
    → option_map (λ more. done ++ more) (with_two (λ prefix rest. prefix ++ rest) read (classes_of_words width each (left - each) words)) ≡ o
    → (length all + (left - here) ≡ length done + left) × (option_map (λ more. all ++ more) (classes_of_words width each (left - here) words) ≡ o)) [
      | Some row ↦ λ read grown was.
          let same : done ++ row ≡ all = cc in
          let long : length all ≡ length done + here = rw (← same) (length-append done row ∙ ap (λ n. length done + n) (classes_of_word_length width here word row read)) in
          (omega arith, rw (left_over, ← same) (joined_rows done row (classes_of_words width each (left - each) words) ∙ was))
      | None ↦ λ read grown was. absurd (cc)
    ] refl grown was'

-- as many bases as there may be
pub bases_at_most : (count : ℕ) (words : List ℕ) → count ≤ most_bases → bases_from count words ≡ classes_of_words base_bits bases_a_word count words
bases_at_most count words h = let test = at_most count most_bases h in rw test refl

-- the fields of word 0 are read back
head_back : (k s t n : ℕ) → k < 2 ^ operation_bits → s < 2 ^ subject_bits → t < 2 ^ second_bits → n < 2 ^ attribute_bits
    → heading_at (number_of (heading_fields k s t n)) ≡ record { kind = k; subject = s; second = t; name = n }
head_back k s t n k_fits s_fits t_fits n_fits =
    let top = 0 * 2 ^ attribute_bits + n in
    let high = top * 2 ^ second_bits + t in
    let rest = high * 2 ^ subject_bits + s in
    rw (
      mod_low rest operation_bits k k_fits,
      shr_high rest operation_bits k k_fits,
      mod_low high subject_bits s s_fits,
      shr_high high subject_bits s s_fits,
      mod_low top second_bits t t_fits,
      shr_high top second_bits t t_fits,
      mod_low 0 attribute_bits n n_fits,
    ) refl

-- classes are read back, where the width holds each
classes_back : (width : ℕ) → classes ≤ 2 ^ width → (bases : List ℕ) → AreClasses bases → classes_of_word width (length bases) (number_of (row_fields width bases)) ≡ Some bases
classes_back width wide [] h = refl
classes_back width wide (c ∷ cs) h =
    let small : c < 2 ^ width = omega (arith, h 0) in
    let low = mod_low (number_of (row_fields width cs)) width c small in
    let high = shr_high (number_of (row_fields width cs)) width c small in
    rw (low, high, below_gives _ c (h 0), classes_back width wide cs (λ i. h (suc i))) refl

-- and from several words, where `each` a word hold them all
rows_back : (width each : ℕ) → classes ≤ 2 ^ width → (words : ℕ) (bases : List ℕ) → AreClasses bases → length bases ≤ words * each
    → classes_of_words width each (length bases) (map number_of (rows_fields width each words bases)) ≡ Some bases
rows_back width each wide zero [] h fits = refl
rows_back width each wide zero (c ∷ cs) h fits = absurd (omega arith)
rows_back width each wide (suc words) bases h fits =
    let prefix : classes_of_word width (length (take each bases)) (number_of (row_fields width (take each bases))) ≡ Some (take each bases) = classes_back width wide (take each bases) (are_classes_before each bases h) in
    let here : min (length bases) each ≡ length (take each bases) = sym (length-take each bases ∙ min_comm each (length bases)) in
    let left : length bases - each ≡ length (drop each bases) = sym (length-drop each bases) in
    let fits' : length (drop each bases) ≤ words * each = let left' = left in omega arith in
    let after = rows_back width each wide words (drop each bases) (are_classes_after each bases h) fits' in
    rw (here, prefix, left, after) (ap Some (take-append-drop each bases))

bases_back : (bases : List ℕ) → IsBases bases → bases_from (length bases) (map number_of (bases_fields bases)) ≡ Some bases
bases_back bases h =
    bases_at_most (length bases) (map number_of (bases_fields bases)) h.0 ∙ rows_back base_bits bases_a_word (omega arith) bases_words bases h.1 (omega (arith, h.0))

value_back : (v : value.Value) → IsValue v → value_in_word (word_of v) ≡ Some v
value_back v h = (word_exact (word_of v) v).1 (h, refl)

-- the words after word 0
abbrev pub later_words : List ℕ → List ℕ
later_words words = get_or words 1 0 ∷ get_or words 2 0 ∷ get_or words 3 0 ∷ []

-- the operation that the words are read as, before they are compared with its words
abbrev pub op_in : List ℕ → Option op.Op
op_in words = op_at (heading_at (get_or words 0 0)) (later_words words)

-- what is read from a word 0 with these fields
head_read : (k s t n : ℕ) (words : List ℕ) (o : op.Op) → k < 2 ^ operation_bits → s < 2 ^ subject_bits → t < 2 ^ second_bits → n < 2 ^ attribute_bits
    → op_at (record { kind = k; subject = s; second = t; name = n }) (later_words (number_of (heading_fields k s t n) ∷ words)) ≡ Some o → op_in (number_of (heading_fields k s t n) ∷ words) ≡ Some o
head_read k s t n words o k_fits s_fits t_fits n_fits read =
    ap (λ h. op_at h (later_words (number_of (heading_fields k s t n) ∷ words))) (head_back k s t n k_fits s_fits t_fits n_fits) ∙ read

-- an operation's words are read as that operation
op_back : (o : op.Op) → IsOp o → op_in (words_of o) ≡ Some o
op_back (ops.NewClass c bases) h = head_read 1 c (length bases) 0 (map number_of (bases_fields bases)) _ (omega arith) (omega (arith, h.0)) (omega (arith, h.1.0)) (omega arith) (rw (below_gives _ c h.0, bases_back bases h.1) refl)
op_back (ops.TypeSet c n v) h = head_read 2 c 0 n (word_of v ∷ 0 ∷ 0 ∷ []) _ (omega arith) (omega (arith, h.0)) (omega arith) (omega (arith, h.1)) (rw (below_gives _ c h.0, below_gives _ n h.1, value_back v h.2) refl)
op_back (ops.TypeDel c n) h = head_read 3 c 0 n (0 ∷ 0 ∷ 0 ∷ []) _ (omega arith) (omega (arith, h.0)) (omega arith) (omega (arith, h.1)) (rw (below_gives _ c h.0, below_gives _ n h.1) refl)
op_back (ops.SetBases c bases) h = head_read 4 c (length bases) 0 (map number_of (bases_fields bases)) _ (omega arith) (omega (arith, h.0)) (omega (arith, h.1.0)) (omega arith) (rw (below_gives _ c h.0, bases_back bases h.1) refl)
op_back (ops.New c) h = head_read 5 c 0 0 (0 ∷ 0 ∷ 0 ∷ []) _ (omega arith) (omega arith) (omega arith) (omega arith) (rw (below_gives _ c h) refl)
op_back (ops.Set o n v) h = head_read 6 o 0 n (word_of v ∷ 0 ∷ 0 ∷ []) _ (omega arith) (omega (arith, h.0)) (omega arith) (omega (arith, h.1)) (rw (below_gives _ o h.0, below_gives _ n h.1, value_back v h.2) refl)
op_back (ops.Del o n) h = head_read 7 o 0 n (0 ∷ 0 ∷ 0 ∷ []) _ (omega arith) (omega (arith, h.0)) (omega arith) (omega (arith, h.1)) (rw (below_gives _ o h.0, below_gives _ n h.1) refl)
op_back (ops.SetClass o c) h = head_read 8 o c 0 (0 ∷ 0 ∷ 0 ∷ []) _ (omega arith) (omega (arith, h.0)) (omega (arith, h.1)) (omega arith) (rw (below_gives _ o h.0, below_gives _ c h.1) refl)
op_back (ops.Share o q) h = head_read 9 o q 0 (0 ∷ 0 ∷ 0 ∷ []) _ (omega arith) (omega (arith, h.0)) (omega (arith, h.1)) (omega arith) (rw (below_gives _ o h.0, below_gives _ q h.1) refl)
op_back (ops.Get o n) h = head_read 10 o 0 n (0 ∷ 0 ∷ 0 ∷ []) _ (omega arith) (omega (arith, h.0)) (omega arith) (omega (arith, h.1)) (rw (below_gives _ o h.0, below_gives _ n h.1) refl)
op_back (ops.TypeGet c n) h = head_read 11 c 0 n (0 ∷ 0 ∷ 0 ∷ []) _ (omega arith) (omega (arith, h.0)) (omega arith) (omega (arith, h.1)) (rw (below_gives _ c h.0, below_gives _ n h.1) refl)
op_back (ops.Super k o n) h = head_read 12 o k n (0 ∷ 0 ∷ 0 ∷ []) _ (omega arith) (omega (arith, h.1)) (omega (arith, h.0)) (omega (arith, h.2)) (rw (below_gives _ k h.0, below_gives _ o h.1, below_gives _ n h.2) refl)
op_back (ops.Special o n) h = head_read 13 o 0 n (0 ∷ 0 ∷ 0 ∷ []) _ (omega arith) (omega (arith, h.0)) (omega arith) (omega (arith, h.1)) (rw (below_gives _ o h.0, below_gives _ n h.1) refl)
op_back (ops.ClassOf o) h = head_read 14 o 0 0 (0 ∷ 0 ∷ 0 ∷ []) _ (omega arith) (omega arith) (omega arith) (omega arith) (rw (below_gives _ o h) refl)
op_back (ops.Mro c) h = head_read 15 c 0 0 (0 ∷ 0 ∷ 0 ∷ []) _ (omega arith) (omega arith) (omega arith) (omega arith) (rw (below_gives _ c h) refl)

op_of_words : (o : op.Op) (words : List ℕ) → HasWords o words → op_in words ≡ Some o
op_of_words o words h = let P : List ℕ → Type 0 = λ w. op_in w ≡ Some o in subst P h.1 (op_back o h.0)

-- words that are read as nothing are no operation's
pub no_op_read : (words : List ℕ) (r : Option op.Op) → op_in words ≡ None → r ≡ None → (o : op.Op) → (r ≡ Some o) ↔ HasWords o words
no_op_read words r none r_none o = (λ e. absurd (cc), λ h. absurd (let e = op_of_words o words h in cc))

-- words that are read as an operation that has other words are no operation's
pub other_op_read : (words : List ℕ) (read : op.Op) → op_in words ≡ Some read → words_of read ≢ words → (o : op.Op) → (None ≡ Some o) ↔ HasWords o words
other_op_read words read e other o =
    (λ none. absurd (cc), λ h. absurd (let e' = op_of_words o words h in let same : read ≡ o = cc in other (ap words_of same ∙ h.1)))

-- words that are read as an operation that has them are that operation's
pub op_read : (words : List ℕ) (read : op.Op) → op_in words ≡ Some read → HasWords read words → (o : op.Op) → (Some read ≡ Some o) ↔ HasWords o words
op_read words read e has o = (
  λ same. let same' : read ≡ o = cc in let P : op.Op → Type 0 = λ x. HasWords x words in subst P same' has,
  λ h. sym e ∙ op_of_words o words h,
)

-- two operations in range with the same words are one
pub one_operation : (o p : op.Op) → IsOp o → IsOp p → words_of o ≡ words_of p → o ≡ p
one_operation o p o_fits p_fits same =
    let first = op_of_words o (words_of p) (o_fits, same) in
    let second = op_back p p_fits in
    cc

-- the fields of word 0 fit
heading_fits : (k s t n : ℕ) → k < 2 ^ operation_bits → s < 2 ^ subject_bits → t < 2 ^ second_bits → n < 2 ^ attribute_bits → FitWord (heading_fields k s t n)
heading_fits k s t n k_fits s_fits t_fits n_fits = ((k_fits, (s_fits, (t_fits, (n_fits, tt)))), omega arith)

-- a word without fields fits, and so do two and three of them
unused : FitWord []
unused = (tt, omega arith)

two_unused : FitWords ([] ∷ [] ∷ [])
two_unused = (unused, (unused, tt))

three_unused : FitWords ([] ∷ [] ∷ [] ∷ [])
three_unused = (unused, two_unused)

-- classes in a row fit, where the width holds each
row_within : (width : ℕ) → classes ≤ 2 ^ width → (bases : List ℕ) → AreClasses bases → AreWithin (row_fields width bases)
row_within width wide [] h = tt
row_within width wide (c ∷ cs) h = (omega (arith, h 0), row_within width wide cs (λ i. h (suc i)))

row_bits : (width : ℕ) (bases : List ℕ) → bits_of (row_fields width bases) ≡ width * length bases
row_bits width [] = omega arith
row_bits width (c ∷ cs) = let rest = row_bits width cs in omega arith

-- and in rows, where `each` of them have room in a word
rows_fit : (width each : ℕ) → classes ≤ 2 ^ width → width * each ≤ 64 → (words : ℕ) (bases : List ℕ) → AreClasses bases → FitWords (rows_fields width each words bases)
rows_fit width each wide room zero bases h = tt
rows_fit width each wide room (suc words) bases h =
    let prefix = take each bases in
    let few : length prefix ≤ each = rw (length-take each bases) (min-le_left each (length bases)) in
    let bits : bits_of (row_fields width prefix) ≤ 64 = rw (row_bits width prefix) (le_trans (mul-le-mul_left width few) room) in
    let within = row_within width wide prefix (are_classes_before each bases h) in
    ((within, bits), rows_fit width each wide room words (drop each bases) (are_classes_after each bases h))

bases_fit : (bases : List ℕ) → IsBases bases → FitWords (bases_fields bases)
bases_fit bases h = rows_fit base_bits bases_a_word (omega arith) (omega arith) bases_words bases h.1

-- each number of an operation in range fits into its field, and all fields into their word
pub operation_fits : (o : op.Op) → IsOp o → FitWords (words_fields o)
operation_fits (ops.NewClass c bases) h = (heading_fits 1 c (length bases) 0 (omega arith) (omega (arith, h.0)) (omega (arith, h.1.0)) (omega arith), bases_fit bases h.1)
operation_fits (ops.TypeSet c n v) h = (heading_fits 2 c 0 n (omega arith) (omega (arith, h.0)) (omega arith) (omega (arith, h.1)), (value_fits v h.2, two_unused))
operation_fits (ops.TypeDel c n) h = (heading_fits 3 c 0 n (omega arith) (omega (arith, h.0)) (omega arith) (omega (arith, h.1)), three_unused)
operation_fits (ops.SetBases c bases) h = (heading_fits 4 c (length bases) 0 (omega arith) (omega (arith, h.0)) (omega (arith, h.1.0)) (omega arith), bases_fit bases h.1)
operation_fits (ops.New c) h = (heading_fits 5 c 0 0 (omega arith) (omega arith) (omega arith) (omega arith), three_unused)
operation_fits (ops.Set o n v) h = (heading_fits 6 o 0 n (omega arith) (omega (arith, h.0)) (omega arith) (omega (arith, h.1)), (value_fits v h.2, two_unused))
operation_fits (ops.Del o n) h = (heading_fits 7 o 0 n (omega arith) (omega (arith, h.0)) (omega arith) (omega (arith, h.1)), three_unused)
operation_fits (ops.SetClass o c) h = (heading_fits 8 o c 0 (omega arith) (omega (arith, h.0)) (omega (arith, h.1)) (omega arith), three_unused)
operation_fits (ops.Share o q) h = (heading_fits 9 o q 0 (omega arith) (omega (arith, h.0)) (omega (arith, h.1)) (omega arith), three_unused)
operation_fits (ops.Get o n) h = (heading_fits 10 o 0 n (omega arith) (omega (arith, h.0)) (omega arith) (omega (arith, h.1)), three_unused)
operation_fits (ops.TypeGet c n) h = (heading_fits 11 c 0 n (omega arith) (omega (arith, h.0)) (omega arith) (omega (arith, h.1)), three_unused)
operation_fits (ops.Super k o n) h = (heading_fits 12 o k n (omega arith) (omega (arith, h.1)) (omega (arith, h.0)) (omega (arith, h.2)), three_unused)
operation_fits (ops.Special o n) h = (heading_fits 13 o 0 n (omega arith) (omega (arith, h.0)) (omega arith) (omega (arith, h.1)), three_unused)
operation_fits (ops.ClassOf o) h = (heading_fits 14 o 0 0 (omega arith) (omega arith) (omega arith) (omega arith), three_unused)
operation_fits (ops.Mro c) h = (heading_fits 15 c 0 0 (omega arith) (omega arith) (omega arith) (omega arith), three_unused)
