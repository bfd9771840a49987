-- What is read of a text that was written, in front of anything that may follow.
use Rattle.std.proofs.Common.{◌≡◌, ◌∙◌, ap, refl, sym, subst, ℕ, zero, suc, ◌+◌, ◌<◌, ◌≤◌, ◌^◌, ◌==◌, nat_lt, arith, rules, List, [], ◌∷◌, ◌++◌, length, map, append_assoc, length-append, Bool, true, false, cond, not, ◌&&◌, ◌||◌, Option, Some, None, bytes_eq, decimal, ◌⊎◌, inl, inr, flat_map}
use Rattle.std.specs.Option.{option_map}
use Rattle.std.specs.List.{list_all, AllByRecursion}
use Rattle.std.specs.Int.{is_in_range}
use Rattle.std.specs.Str.Parse.{digits_value}
use Rattle.std.specs.Cmp.Lexicographic.{nat_list_eq_equiv}
use Rattle.std.proofs.lemmas.Bool.{eq-eqb, eqb-true, lt-ltb}
use Rattle.std.proofs.lemmas.Fmt.{digits_decimal, digits_value-decimal}
use Rattle.std.proofs.lemmas.Str.Parse.{IsNumeralModel, numerals_by_value}
use Rattle.at_name.specs.Texts.{place_of}
use Rattle.at_script.specs.Bytes as bytes
use Rattle.at_script.specs.Literals.{◌>>=◌}
use Rattle.at_script.specs.Words.{begins_identifier, continues_identifier, is_identifier, is_digit}
use Rattle.at_text.specs.Values.{text_at}
use Rattle.at_text.specs.Readers.{Reader, nothing, made, passing, both, past, after, before, run, past_run, begins_with, number_of, number_below, number_at, positive_at, name_at, counted, up_to, numbered}

-- Read in front of what may follow, the text of a thing is the thing and the rest.
pub record Reads {A : Type 0} (r : Reader A) (text : List ℕ) (a : A) (follows : List ℕ → Type 0) : Type 0 where
  pub here : (x : List ℕ) → follows x → r (text ++ x) ≡ Some (a, x)

-- What may follow

abbrev pub Anything : List ℕ → Type 0
Anything x = Unit {0}

-- no byte of a name or of a number
abbrev pub ends : List ℕ → Bool
ends [] = true
ends (byte ∷ x) = not (continues_identifier byte)

abbrev pub Ends : List ℕ → Type 0
Ends x = ends x ≡ true

-- a blank or a newline
abbrev pub breaks : List ℕ → Bool
breaks [] = false
breaks (byte ∷ x) = byte == bytes.space || byte == bytes.newline

abbrev pub Breaks : List ℕ → Type 0
Breaks x = breaks x ≡ true

-- a newline, or ` =`
abbrev pub stops : List ℕ → Bool
stops [] = false
stops (byte ∷ x) = byte == bytes.newline || (byte == bytes.space && begins_with 61 x)

abbrev pub Stops : List ℕ → Type 0
Stops x = stops x ≡ true

-- a newline
abbrev pub Closes : List ℕ → Type 0
Closes x = begins_with bytes.newline x ≡ true

pub or-true : (p q : Bool) → (p || q) ≡ true → (p ≡ true) ⊎ (q ≡ true)
or-true true q h = inl refl
or-true false q h = inr h

pub and-true : (p q : Bool) → (p && q) ≡ true → (p ≡ true) × (q ≡ true)
and-true true q h = (refl, h)
and-true false q h = cc

-- a list that begins with this byte
pub begun : (byte : ℕ) (x : List ℕ) → begins_with byte x ≡ true → (rest : List ℕ) × (x ≡ byte ∷ rest)
begun byte [] h = cc
begun byte (first ∷ x) h = (x, ap (λ b. b ∷ x) (eqb-true first byte h))

pub breaks-end : (x : List ℕ) → Breaks x → Ends x
breaks-end [] h = cc
breaks-end (byte ∷ x) h =
    elim (or-true (byte == bytes.space) (byte == bytes.newline) h) [
      | inl e ↦ subst (λ b. not (continues_identifier b) ≡ true) (sym (eqb-true byte bytes.space e)) refl
      | inr e ↦ subst (λ b. not (continues_identifier b) ≡ true) (sym (eqb-true byte bytes.newline e)) refl
    ]

pub stops-break : (x : List ℕ) → Stops x → Breaks x
stops-break [] h = cc
stops-break (byte ∷ x) h =
    elim (or-true (byte == bytes.newline) (byte == bytes.space && begins_with 61 x) h) [
      | inl e ↦ subst (λ b. (b == bytes.space || b == bytes.newline) ≡ true) (sym (eqb-true byte bytes.newline e)) refl
      | inr e ↦ subst (λ b. (b == bytes.space || b == bytes.newline) ≡ true) (sym (eqb-true byte bytes.space (and-true _ _ e).0)) refl
    ]

pub closes-stop : (x : List ℕ) → Closes x → Stops x
closes-stop x h = let b = begun bytes.newline x h in subst Stops (sym b.1) refl

-- One after another

pub past_here : (word x : List ℕ) → past word (word ++ x) ≡ Some x
past_here [] x = refl
past_here (byte ∷ word) x = ap (λ b. cond b (past word (word ++ x)) None) (eq-eqb byte byte refl) ∙ past_here word x

module _ {A : Type 0} where
  pub nothing_reads : (a : A) (follows : List ℕ → Type 0) → Reads (nothing a) [] a follows
  unfolding nothing
  nothing_reads a follows = record { here = λ x f. refl }

  -- the same text in other words
  pub same_text : {r : Reader A} {text other : List ℕ} {a : A} {follows : List ℕ → Type 0} → text ≡ other → Reads r text a follows → Reads r other a follows
  same_text {r} {text} {other} {a} {follows} e h = subst (λ t. Reads r t a follows) e h

  -- less may follow
  pub where_follows : {r : Reader A} {text : List ℕ} {a : A} {more less : List ℕ → Type 0} → ((x : List ℕ) → less x → more x) → Reads r text a more → Reads r text a less
  where_follows weaker h = record { here = λ x f. h.here x (weaker x f) }

  pub after_reads : {r : Reader A} {text : List ℕ} {a : A} {follows : List ℕ → Type 0} (word : List ℕ) → Reads r text a follows → Reads (after word r) (word ++ text) a follows
  unfolding after
  after_reads {r} {text} word h = record {
    here = λ x f. ap (after word r) (append_assoc word text x) ∙ ap (λ o. o >>= r) (past_here word (text ++ x)) ∙ h.here x f;
  }

  pub passing_reads : {r : Reader A} {text : List ℕ} {a : A} {follows : List ℕ → Type 0} (test : A → Bool) → test a ≡ true → Reads r text a follows → Reads (passing test r) text a follows
  unfolding passing
  passing_reads {r} {text} {a} test h k = record {
    here = λ x f.
        let rest : A × List ℕ → Option (A × List ℕ) = λ found. cond (test found.0) (Some found) None in
        ap (λ o. o >>= rest) (k.here x f) ∙ ap (λ b. cond b (Some (a, x)) None) h;
  }

  pub before_reads : {r : Reader A} {text : List ℕ} {a : A} {follows : List ℕ → Type 0} (word : List ℕ) → ((x : List ℕ) → follows (word ++ x)) → Reads r text a follows → Reads (before r word) (text ++ word) a Anything
  unfolding before
  before_reads {r} {text} {a} word apart h = record {
    here = λ x f.
        let rest : A × List ℕ → Option (A × List ℕ) = λ found. option_map (λ (rest : List ℕ). (found.0, rest)) (past word found.1) in
        ap (before r word) (append_assoc text word x) ∙ ap (λ o. o >>= rest) (h.here (word ++ x) (apart x)) ∙ ap (option_map (λ (rest : List ℕ). (a, rest))) (past_here word x);
  }

module _ {A B : Type 0} where
  pub made_reads : {r : Reader A} {text : List ℕ} {a : A} {follows : List ℕ → Type 0} (f : A → B) → Reads r text a follows → Reads (made f r) text (f a) follows
  unfolding made
  made_reads f h = record { here = λ x g. ap (option_map (λ (found : A × List ℕ). (f found.0, found.1))) (h.here x g) }

  pub both_reads : {r : Reader A} {q : Reader B} {text more : List ℕ} {a : A} {b : B} {apart follows : List ℕ → Type 0}
      → ((x : List ℕ) → follows x → apart (more ++ x)) → Reads r text a apart → Reads q more b follows → Reads (both r q) (text ++ more) (a, b) follows
  unfolding both
  both_reads {r} {q} {text} {more} {a} {b} next h k = record {
    here = λ x f.
        let rest : A × List ℕ → Option ((A × B) × List ℕ) = λ first. option_map (λ (second : B × List ℕ). ((first.0, second.0), second.1)) (q first.1) in
        ap (both r q) (append_assoc text more x) ∙ ap (λ o. o >>= rest) (h.here (more ++ x) (next x f)) ∙ ap (option_map (λ (second : B × List ℕ). ((a, second.0), second.1))) (k.here x f);
  }

-- Names and numbers

nothing_runs : (x : List ℕ) → Ends x → (run x ≡ []) × (past_run x ≡ x)
nothing_runs [] h = (refl, refl)
nothing_runs (byte ∷ x) h =
    let stop : continues_identifier byte ≡ false = un-not (continues_identifier byte) h in
    (ap (λ b. cond b (byte ∷ run x) []) stop, ap (λ b. cond b (past_run x) (byte ∷ x)) stop)
  where
    un-not : (b : Bool) → not b ≡ true → b ≡ false
    un-not true h = cc
    un-not false h = refl

-- a word of such bytes is told from what follows
pub word_runs : (word x : List ℕ) → list_all continues_identifier word ≡ true → Ends x → (run (word ++ x) ≡ word) × (past_run (word ++ x) ≡ x)
word_runs [] x all h = nothing_runs x h
word_runs (byte ∷ word) x all h =
    let each = and-true (continues_identifier byte) (list_all continues_identifier word) all in
    let rest = word_runs word x each.1 h in (
      ap (λ b. cond b (byte ∷ run (word ++ x)) []) each.0 ∙ ap (λ w. byte ∷ w) rest.0,
      ap (λ b. cond b (past_run (word ++ x)) (byte ∷ (word ++ x))) each.0 ∙ rest.1,
    )

-- the text stands at its place, and is a name
pub record IsKnown (texts : List (List ℕ)) (n : ℕ) : Type 0 where
  pub form : is_identifier (text_at texts n) ≡ true
  pub place : place_of (text_at texts n) texts ≡ Some n

abbrev pub AreKnown : List (List ℕ) → Type 0
AreKnown texts = (n : ℕ) → n < length texts → IsKnown texts n

-- a letter or `_` is one of letters, digits and `_`
letter-widens : (digit upper lower underscore : Bool) → ((upper || lower) || underscore) ≡ true → (((digit || upper) || lower) || underscore) ≡ true
letter-widens true upper lower underscore h = refl
letter-widens false upper lower underscore h = h

digit-widens : (digit upper lower underscore : Bool) → digit ≡ true → (((digit || upper) || lower) || underscore) ≡ true
digit-widens true upper lower underscore h = refl
digit-widens false upper lower underscore h = cc

begins-continue : (byte : ℕ) → begins_identifier byte ≡ true → continues_identifier byte ≡ true
begins-continue byte h = letter-widens (is_in_range 48 57 byte) (is_in_range 65 90 byte) (is_in_range 97 122 byte) (byte == bytes.underscore) h

pub identifier_continues : (word : List ℕ) → is_identifier word ≡ true → list_all continues_identifier word ≡ true
identifier_continues [] h = cc
identifier_continues (byte ∷ word) h =
    let each = and-true (begins_identifier byte) (list_all continues_identifier word) h in
    ap (λ b. b && list_all continues_identifier word) (begins-continue byte each.0) ∙ each.1

pub name_reads : (texts : List (List ℕ)) (n : ℕ) → IsKnown texts n → Reads (name_at texts) (text_at texts n) n Ends
unfolding name_at
name_reads texts n known = record {
  here = λ x f.
      let told = word_runs (text_at texts n) x (identifier_continues (text_at texts n) known.form) f in
      ap (λ (w : List ℕ). option_map (λ m. (m, past_run (text_at texts n ++ x))) (place_of w texts)) told.0
      ∙ ap (option_map (λ m. (m, past_run (text_at texts n ++ x)))) known.place ∙ ap (λ (rest : List ℕ). Some (n, rest)) told.1;
}

pub digits : IsNumeralModel (λ ds. list_all is_digit ds ≡ true) (digits_value 10)
digits = numerals_by_value _ (search rules)

digit-continues : (byte : ℕ) → is_digit byte ≡ true → continues_identifier byte ≡ true
digit-continues byte h = digit-widens (is_in_range 48 57 byte) (is_in_range 65 90 byte) (is_in_range 97 122 byte) (byte == bytes.underscore) h

pub digits_continue : (word : List ℕ) → list_all is_digit word ≡ true → list_all continues_identifier word ≡ true
digits_continue [] h = refl
digits_continue (byte ∷ word) h =
    let each = and-true (is_digit byte) (list_all is_digit word) h in
    ap (λ b. b && list_all continues_identifier word) (digit-continues byte each.0) ∙ digits_continue word each.1

pub number_of_decimal : (n : ℕ) → n < 2 ^ 64 → number_of (decimal n) ≡ Some n
number_of_decimal n h =
    ap (λ (m : ℕ). cond (bytes_eq (decimal n) (decimal m)) (Some m) None) (digits_value-decimal digits n h)
    ∙ ap (λ b. cond b (Some n) None) (nat_list_eq_equiv.refl (decimal n))

pub number_below_decimal : (bound n : ℕ) → n < bound → n < 2 ^ 64 → number_below bound (decimal n) ≡ Some n
number_below_decimal bound n below h =
    ap (λ (o : Option ℕ). o >>= (λ m. cond (nat_lt m bound) (Some m) None)) (number_of_decimal n h) ∙ ap (λ b. cond b (Some n) None) (lt-ltb n bound below)

pub number_reads : (bound n : ℕ) → n < bound → n < 2 ^ 64 → Reads (number_at bound) (decimal n) n Ends
unfolding number_at
number_reads bound n below h = record {
  here = λ x f.
      let told = word_runs (decimal n) x (digits_continue (decimal n) (digits_decimal digits n h)) f in
      ap (λ (w : List ℕ). option_map (λ m. (m, past_run (decimal n ++ x))) (number_below bound w)) told.0
      ∙ ap (option_map (λ m. (m, past_run (decimal n ++ x)))) (number_below_decimal bound n below h) ∙ ap (λ (rest : List ℕ). Some (n, rest)) told.1;
}

pub positive_reads : (bound n : ℕ) → 0 < n → n < bound → n < 2 ^ 64 → Reads (positive_at bound) (decimal n) n Ends
positive_reads bound n some below h = passing_reads (nat_lt 0) (lt-ltb 0 n some) (number_reads bound n below h)

-- Lists

module _ {A B : Type 0} where
  -- so many things, each of which tells where it ends
  pub counted_reads : (r : Reader B) (text : A → List ℕ) (seen : A → B) (xs : List A) → AllByRecursion (λ x. Reads r (text x) (seen x) Anything) xs → Reads (counted (length xs) r) (flat_map text xs) (map seen xs) Anything
  unfolding nothing
  counted_reads r text seen [] all = record { here = λ x f. refl }
  counted_reads r text seen (a ∷ xs) all = record {
    here = λ x f.
        let next = counted_reads r text seen xs all.1 in
        let rest : B × List ℕ → Option (List B × List ℕ) = λ first. option_map (λ (more : List B × List ℕ). (first.0 ∷ more.0, more.1)) (counted (length xs) r first.1) in
        ap (λ t. r t >>= rest) (append_assoc (text a) (flat_map text xs) x) ∙ ap (λ o. o >>= rest) (all.0.here (flat_map text xs ++ x) tt) ∙ ap (option_map (λ (more : List B × List ℕ). (seen a ∷ more.0, more.1))) (next.here x tt);
  }

module _ {A : Type 0} where
  -- the texts of all, numbered from a number on
  abbrev pub texts_from : (ℕ → A → List ℕ) → ℕ → List A → List ℕ
  texts_from text number [] = []
  texts_from text number (a ∷ xs) = text number a ++ texts_from text (number + 1) xs

  -- a thing of such a list: its text passes the test, and is read where another or what follows the list stands after it
  pub record Listed (more : List ℕ → Bool) (r : ℕ → Reader A) (text : ℕ → A → List ℕ) (follows : List ℕ → Type 0) (a : A) : Type 0 where
    pub some : (number : ℕ) → 0 < length (text number a)
    pub goes : (number : ℕ) (x : List ℕ) → more (text number a ++ x) ≡ true
    pub next : (number : ℕ) (x : List ℕ) → follows (text number a ++ x)
    pub reads : (number : ℕ) → Reads (r number) (text number a) a follows

  module _ (more : List ℕ → Bool) (r : ℕ → Reader A) (text : ℕ → A → List ℕ) (follows : List ℕ → Type 0) where
    follow_texts : (number : ℕ) (xs : List A) (x : List ℕ) → AllByRecursion (Listed more r text follows) xs → follows x → follows (texts_from text number xs ++ x)
    follow_texts number [] x all f = f
    follow_texts number (a ∷ xs) x all f = subst follows (sym (append_assoc (text number a) (texts_from text (number + 1) xs) x)) (all.0.next number (texts_from text (number + 1) xs ++ x))

    up_to_reads : (n number : ℕ) (xs : List A) (x : List ℕ) → length xs ≤ n → AllByRecursion (Listed more r text follows) xs → more x ≡ false → follows x → up_to n more r number (texts_from text number xs ++ x) ≡ Some (xs, x)
    unfolding nothing
    up_to_reads zero number [] x few all stop f = refl
    up_to_reads zero number (a ∷ xs) x few all stop f = absurd (omega arith)
    up_to_reads (suc n) number [] x few all stop f =
        let rest : A × List ℕ → Option (List A × List ℕ) = λ first. option_map (λ (rest : List A × List ℕ). (first.0 ∷ rest.0, rest.1)) (up_to n more r (number + 1) first.1) in
        ap (λ b. cond b (r number x >>= rest) (Some ([], x))) stop
    up_to_reads (suc n) number (a ∷ xs) x few all stop f =
        let rest : A × List ℕ → Option (List A × List ℕ) = λ first. option_map (λ (rest : List A × List ℕ). (first.0 ∷ rest.0, rest.1)) (up_to n more r (number + 1) first.1) in
        let left : List ℕ = texts_from text (number + 1) xs ++ x in
        ap (λ t. cond (more t) (r number t >>= rest) (Some ([], t))) (append_assoc (text number a) (texts_from text (number + 1) xs) x)
        ∙ ap (λ b. cond b (r number (text number a ++ left) >>= rest) (Some ([], text number a ++ left))) (all.0.goes number left)
        ∙ ap (λ o. o >>= rest) ((all.0.reads number).here left (follow_texts (number + 1) xs x all.1 f))
        ∙ ap (option_map (λ (rest : List A × List ℕ). (a ∷ rest.0, rest.1))) (up_to_reads n (number + 1) xs x (omega arith) all.1 stop f)

    count_texts : (number : ℕ) (xs : List A) → AllByRecursion (Listed more r text follows) xs → length xs ≤ length (texts_from text number xs)
    count_texts number [] all = omega arith
    count_texts number (a ∷ xs) all =
        let longer = length-append (text number a) (texts_from text (number + 1) xs) in
        omega (arith, count_texts (number + 1) xs all.1, all.0.some number)

    -- all that pass the test
    pub numbered_reads : (xs : List A) → AllByRecursion (Listed more r text follows) xs → Reads (numbered more r) (texts_from text 0 xs) xs (λ x. (more x ≡ false) × follows x)
    unfolding numbered
    numbered_reads xs all = record {
      here = λ x f.
          let longer = length-append (texts_from text 0 xs) x in
          up_to_reads (length (texts_from text 0 xs ++ x)) 0 xs x (omega (arith, count_texts 0 xs all)) all f.0 f.1;
    }

  -- texts that the numbers don't change
  pub flat_texts : (text : A → List ℕ) (number : ℕ) (xs : List A) → texts_from (λ _. text) number xs ≡ flat_map text xs
  flat_texts text number [] = refl
  flat_texts text number (a ∷ xs) = ap (λ t. text a ++ t) (flat_texts text (number + 1) xs)
