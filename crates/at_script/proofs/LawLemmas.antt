-- The first offence, found line by line, is the first that a line has.
use Rattle.std.proofs.Common.{◌≡◌, ◌∙◌, ap, refl, sym, ℕ, zero, suc, min, ◌+◌, ◌<◌, ◌≤◌, arith, List, [], ◌∷◌, length, take, slice_get, Option, Some, None, is_some, is_none, length-take}
use Rattle.std.specs.Option.{option_map}
use Rattle.std.specs.List.{fold}
use Rattle.std.proofs.lemmas.List.{take-take}
use Rattle.at_script.specs.declared.fault.Cause as cause
use Rattle.at_script.specs.Lines.{lines_of}
use Rattle.at_script.specs.Literals.{or}
use Rattle.at_script.specs.Stages.{end_cause}
use Rattle.at_script.specs.Texts.{Texts, texts_of}
use Rattle.at_script.specs.State.{State, before_all}
use Rattle.at_script.specs.Causes.{cause_of}
use Rattle.at_script.specs.Script.{after, first_from, first_offence, if_no_offence}
use Rattle.at_script.specs.Laws.{cause_in, cause_at, IsCleanBefore}

-- a text has a script where it has no offence
pub script_or_not : {A B : Type 0} (o : Option A) (script : B) → is_some (if_no_offence o script) ≡ is_none o
script_or_not None script = refl
script_or_not (Some offence) script = refl

-- what is wrong with the line that has this many lines before it, from a state on
abbrev cause_from : State → List (List ℕ) → ℕ → Option cause.Cause
cause_from s lines n = cause_in (fold after s (take n lines)) (slice_get lines n)

-- the first offence of these lines, which are numbered from a number on
record IsFirstFrom (number : ℕ) (s : State) (lines : List (List ℕ)) (offence : ℕ × cause.Cause) : Type 0 where
  before : ℕ
  number_is : offence.0 ≡ before + number
  within : before ≤ length lines
  is : cause_from s lines before ≡ Some offence.1
  clean : (m : ℕ) → m < before → cause_from s lines m ≡ None

at_end : (number : ℕ) (s : State) (offence : ℕ × cause.Cause) (o : Option cause.Cause) → end_cause s.stage ≡ o → option_map (λ c. (number, c)) o ≡ Some offence → IsFirstFrom number s [] offence
at_end number s offence None is e = absurd cc
at_end number s offence (Some c) is e =
    let same : (number, c) ≡ offence = unsome (number, c) offence e in
    record {
      before = 0;
      number_is = (let at : offence.0 ≡ number = sym (ap (λ p. p.0) same) in omega arith);
      within = omega arith;
      is = is ∙ ap (λ p. Some p.1) same;
      clean = λ m lt. absurd (omega arith);
    }
  where
    unsome : (x y : ℕ × cause.Cause) → Some x ≡ Some y → x ≡ y
    unsome x y e = cc

at_line : (number : ℕ) (s : State) (line : List ℕ) (lines : List (List ℕ)) (offence : ℕ × cause.Cause) (o : Option cause.Cause) → cause_of s line ≡ o
    → or (option_map (λ c. (number, c)) o) (first_from (suc number) (after s line) lines) ≡ Some offence
    → (first_from (suc number) (after s line) lines ≡ Some offence → IsFirstFrom (suc number) (after s line) lines offence)
    → IsFirstFrom number s (line ∷ lines) offence
at_line number s line lines offence (Some c) is e next =
    let same : (number, c) ≡ offence = unsome (number, c) offence e in
    record {
      before = 0;
      number_is = (let at : offence.0 ≡ number = sym (ap (λ p. p.0) same) in omega arith);
      within = omega arith;
      is = is ∙ ap (λ p. Some p.1) same;
      clean = λ m lt. absurd (omega arith);
    }
  where
    unsome : (x y : ℕ × cause.Cause) → Some x ≡ Some y → x ≡ y
    unsome x y e = cc
at_line number s line lines offence None is e next =
    let first = next e in
    let at = first.number_is in
    let low = first.within in
    record {
      before = suc first.before;
      number_is = omega arith;
      within = omega arith;
      is = first.is;
      clean = λ m lt. clean_at first m lt;
    }
  where
    clean_at : (first : IsFirstFrom (suc number) (after s line) lines offence) (m : ℕ) → m < suc first.before → cause_from s (line ∷ lines) m ≡ None
    clean_at first zero lt = is
    clean_at first (suc m) lt = first.clean m (omega arith)

first_told : (number : ℕ) (s : State) (lines : List (List ℕ)) (offence : ℕ × cause.Cause) → first_from number s lines ≡ Some offence → IsFirstFrom number s lines offence
first_told number s [] offence e = at_end number s offence (end_cause s.stage) refl e
first_told number s (line ∷ lines) offence e = at_line number s line lines offence (cause_of s line) refl e (λ next. first_told (suc number) (after s line) lines offence next)

first_made : (n number : ℕ) (s : State) (lines : List (List ℕ)) (c : cause.Cause) → n ≤ length lines → cause_from s lines n ≡ Some c → ((m : ℕ) → m < n → cause_from s lines m ≡ None)
    → first_from number s lines ≡ Some (n + number, c)
first_made zero number s [] c within is clean =
    let at : number ≡ zero + number = omega arith in
    ap (option_map (λ (d : cause.Cause). (number, d))) is ∙ ap (λ k. Some (k, c)) at
first_made zero number s (line ∷ lines) c within is clean =
    let at : number ≡ zero + number = omega arith in
    ap (λ o. or (option_map (λ (d : cause.Cause). (number, d)) o) (first_from (suc number) (after s line) lines)) is ∙ ap (λ k. Some (k, c)) at
first_made (suc n) number s [] c within is clean = absurd (omega arith)
first_made (suc n) number s (line ∷ lines) c within is clean =
    let next = first_made n (suc number) (after s line) lines c (omega arith) is (λ m lt. clean (suc m) (omega arith)) in
    let at : n + suc number ≡ suc n + number = omega arith in
    ap (λ o. or (option_map (λ (d : cause.Cause). (number, d)) o) (first_from (suc number) (after s line) lines)) (clean zero (omega arith)) ∙ next ∙ ap (λ k. Some (k, c)) at

-- What the first offence of a text is

pub offence_told : (text : List ℕ) (line : ℕ) (c : cause.Cause) → first_offence text ≡ Some (line, c) → (n : ℕ) × (line ≡ suc n) × (n ≤ length (lines_of text)) × (cause_at text n ≡ Some c) × IsCleanBefore text n
offence_told text line c e =
    let first = first_told 1 (before_all (lines_of text)) (lines_of text) (line, c) e in
    let at = first.number_is in
    (first.before, omega arith, first.within, first.is, first.clean)

pub offence_made : (text : List ℕ) (line : ℕ) (c : cause.Cause) → (n : ℕ) × (line ≡ suc n) × (n ≤ length (lines_of text)) × (cause_at text n ≡ Some c) × IsCleanBefore text n → first_offence text ≡ Some (line, c)
offence_made text line c (n, at, within, is, clean) =
    let number : n + 1 ≡ line = omega arith in
    first_made n 1 (before_all (lines_of text)) (lines_of text) c within is clean ∙ ap (λ k. Some (k, c)) number

-- Texts that are alike up to a line

get_of_take : {A : Type 0} (k m : ℕ) (xs : List A) → m < k → slice_get (take k xs) m ≡ slice_get xs m
get_of_take zero m xs lt = absurd (omega arith)
get_of_take (suc k) m [] lt = refl
get_of_take (suc k) zero (x ∷ xs) lt = refl
get_of_take (suc k) (suc m) (x ∷ xs) lt = get_of_take k m xs (omega arith)

-- a line of both texts has the same cause
alike_at : (text other : List ℕ) (k m : ℕ) → take k (lines_of text) ≡ take k (lines_of other) → texts_of (lines_of text) ≡ texts_of (lines_of other) → m < k → cause_at text m ≡ cause_at other m
alike_at text other k m alike declared lt =
    let start : before_all (lines_of text) ≡ before_all (lines_of other) = ap (λ (t : Texts). record (before_all []) { texts = t }) declared in
    let front : take m (lines_of text) ≡ take m (lines_of other) = sym (take-take m k (lines_of text) (omega arith)) ∙ ap (take m) alike ∙ take-take m k (lines_of other) (omega arith) in
    let line : slice_get (lines_of text) m ≡ slice_get (lines_of other) m = sym (get_of_take k m (lines_of text) lt) ∙ ap (λ xs. slice_get xs m) alike ∙ get_of_take k m (lines_of other) lt in
    ap (λ s. cause_in (fold after s (take m (lines_of text))) (slice_get (lines_of text) m)) start
    ∙ ap (λ xs. cause_in (fold after (before_all (lines_of other)) xs) (slice_get (lines_of text) m)) front
    ∙ ap (cause_in (fold after (before_all (lines_of other)) (take m (lines_of other)))) line

pub nothing_behind : (text other : List ℕ) (line : ℕ) (c : cause.Cause) → first_offence text ≡ Some (line, c) → take line (lines_of text) ≡ take line (lines_of other) → texts_of (lines_of text) ≡ texts_of (lines_of other)
    → first_offence other ≡ Some (line, c)
nothing_behind text other line c e alike declared =
    let told = offence_told text line c e in
    let n : ℕ = told.0 in
    let at : line ≡ suc n = told.1 in
    let within : n ≤ length (lines_of text) = told.2 in
    let long : min line (length (lines_of text)) ≡ min line (length (lines_of other)) = sym (length-take line (lines_of text)) ∙ ap length alike ∙ length-take line (lines_of other) in
    offence_made other line c
    (n, at, omega arith, sym (alike_at text other line n alike declared (omega arith)) ∙ told.3, λ m lt. sym (alike_at text other line m alike declared (omega arith)) ∙ told.4 m lt)
