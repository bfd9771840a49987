-- What the reader makes of a line is what the definitions say of it.
use Rattle.std.proofs.Common.{◌≡◌, ◌∙◌, ap, refl, sym, subst, ℕ, suc, ◌+◌, ◌<◌, ◌≤◌, arith, List, [], ◌∷◌, length, codes, Option, Some, None, is_some, is_none, Bool, true, false, cond, not, ◌||◌, ◌&&◌, leb, Result, Ok, Err}
use Rattle.std.specs.List.{fold, cons_option, list_all, list_any}
use Rattle.std.specs.Result.{IsErrAnd, IfErr}
use Rattle.std.specs.Option.{option_map}
use Rattle.at_value.specs.Widths as widths
use Rattle.at_script.specs.declared.fault.Cause as cause
use Rattle.at_script.specs.declared.fault.Cause.TheVariants as causes
use Rattle.at_script.specs.declared.fault.LineFault.{LineFault}
use Rattle.at_script.specs.declared.fault.ReadFault.{ReadFault}
use Rattle.at_script.specs.declared.fault.ReadFault.TheVariants as read_faults
use Rattle.at_script.specs.declared.keyword.Keyword as keyword
use Rattle.at_script.specs.declared.stage.Stage as stage
use Rattle.at_script.specs.declared.stage.Stage.TheVariants as stages
use Rattle.at_name.specs.Texts.{place_of}
use Rattle.at_script.specs.Faults.{IsFaultAt}
use Rattle.at_script.specs.Limits as limits
use Rattle.at_script.specs.Lines.{lines_of, words_in, is_allowed, is_skipped, begins_with_hash}
use Rattle.at_script.specs.Keywords.{keyword_of}
use Rattle.at_script.specs.Pieces.{two_parts}
use Rattle.at_script.specs.Words.{is_register}
use Rattle.at_script.specs.Shapes.{Said, words_say}
use Rattle.at_script.specs.Uses.{with_uses}
use Rattle.at_script.specs.Taking.{wrong}
use Rattle.at_script.specs.Literals.{or}
use Rattle.at_script.specs.Stages.{may_stand, end_cause}
use Rattle.at_script.specs.State.{State, before_all, parts_of}
use Rattle.at_script.specs.Causes.{cause_of, may_not_stand, has_word, keyword_in, says_after, said_in, uses_said, are_words, begins_thread, is_out_of_range, is_misnamed, is_no_class, is_no_function, is_one_too_many, are_too_many}
use Rattle.at_script.specs.Texts.{Texts, declared_by, declared_in, number_in}
use Rattle.at_script.proofs.Numbered.{EachBelow, few_of}
use Rattle.at_script.proofs.Begun.{IsBegun, at_most, begun_after}
use Rattle.at_script.proofs.DeclaredBelow as declared_below_lemmas
use Rattle.at_script.proofs.Outcomes.{chosen}
use Rattle.at_script.proofs.Registers.{unfree, reserved_absent}
use Rattle.at_script.proofs.StatementLines.{answered, is_over, cause_said}
use Rattle.at_script.proofs.BlockLines.{keyword_line, limited}
use Rattle.at_script.proofs.Extended.{Extends, extends_itself}
use Rattle.at_script.proofs.Limits.{no_limit, texts_within, after_texts, few_texts}
use Rattle.at_script.specs.Script.{after, after_said, first_from, first_offence, script_in, IsScript, if_no_offence}
use Rattle.at_script.specs.LineReading.{line_read, words_read, keyword_read, keyword_found, then_counted, lines_read, end_read_at, then_lines, left_read, IfToldRead}

-- no more names and variables than there may be, and no more functions were begun
pub record IsFine (s : State) : Type 0 where
  pub names : length s.texts.names ≤ widths.names
  pub vars : length s.texts.vars ≤ limits.most_variables
  pub begun : IsBegun s.stage (length s.bodies)
  pub registers : (w : List ℕ) → is_register w ≡ true → place_of w s.texts.funcs ≡ None

-- The words of a line

module _ (s : State) (within : Extends s.texts s.texts) (free : (w : List ℕ) → is_register w ≡ true → place_of w s.texts.funcs ≡ None) (begun : length s.bodies ≤ widths.functions) (count : ℕ) where
  abbrev counted_in : State
  counted_in = record s { bytes = s.bytes + count }

  -- the first cause from the first word on
  abbrev cause_by : Option keyword.Keyword → Option Said → Bool → Option cause.Cause
  cause_by k said unknown =
      cond unknown (Some causes.Word)
      (cond (may_not_stand s.stage k) (Some causes.Place)
      (cond (is_some k && is_none said) (Some causes.Form)
      (chosen (list_any is_out_of_range (uses_said said)) (list_any (is_misnamed (length s.bodies) s.texts) (uses_said said)) (list_any (is_no_class s.texts) (uses_said said)) (list_any (is_no_function s.texts) (uses_said said))
      (is_over s count || list_any (is_one_too_many s.texts) (uses_said said) || are_too_many (with_uses s.texts (uses_said said)) || begins_thread k && leb limits.most_threads (length s.threads)))))

  nothing_read : then_counted count (Ok s) ≡ answered (cause_by None None false) counted_in
  nothing_read = limited s within false false count s counted_in refl refl

  found_line : (k : keyword.Keyword) (words : List (List ℕ)) (may : Bool) → may_stand s.stage k ≡ may
      → then_counted count (cond may (keyword_read s k words) (wrong causes.Place)) ≡ answered (cond (not may) (Some causes.Place) (cause_said s count (begins_thread (Some k) && leb limits.most_threads (length s.threads)) (words_say k words))) (after_said (words_say k words) counted_in)
  found_line k words true is = keyword_line s within free begun k words count
  found_line k words false is = refl

  by_keyword : (o : Option keyword.Keyword) (words : List (List ℕ)) → then_counted count (keyword_found s o words) ≡ answered (cause_by o (says_after o words) (is_none o)) (after_said (says_after o words) counted_in)
  by_keyword None words = refl
  by_keyword (Some k) words = found_line k words (may_stand s.stage k) refl

  abbrev Read : List (List ℕ) → List (List ℕ) → Type 0
  Read all words = then_counted count (words_read s all) ≡ answered (cause_by (keyword_in words) (said_in words) (has_word words)) (after_said (said_in words) counted_in)

  skipped_or_read : (word : List ℕ) (words : List (List ℕ)) (hash : Bool)
      → then_counted count (cond hash (Ok s) (keyword_found s (keyword_of word) words))
      ≡ answered (cause_by (keyword_in (cond hash [] (word ∷ words))) (said_in (cond hash [] (word ∷ words))) (has_word (cond hash [] (word ∷ words)))) (after_said (said_in (cond hash [] (word ∷ words))) counted_in)
  skipped_or_read word words true = nothing_read
  skipped_or_read word words false = by_keyword (keyword_of word) words

  words_are : (words : List (List ℕ)) → Read words (cond (is_skipped words) [] words)
  words_are [] = nothing_read
  words_are (word ∷ words) = skipped_or_read word words (begins_with_hash word)

allowed_by : (b : Bool) (r : Result State LineFault) (rest : Option cause.Cause) (s : State) → r ≡ answered rest s → cond b r (wrong causes.Byte) ≡ answered (cond (not b) (Some causes.Byte) rest) s
allowed_by true r rest s h = h
allowed_by false r rest s h = refl

-- the first line is the header
header_is : (s : State) (within : Extends s.texts s.texts) (count : ℕ) (b : Bool)
    → then_counted count (cond b (Ok (record s { stage = stages.Opening })) (wrong causes.Header))
    ≡ answered (cond (not b) (Some causes.Header) (cond (is_over s count || false || are_too_many s.texts || false) (Some causes.Limit) None)) (record s { stage = stages.Opening; bytes = s.bytes + count })
header_is s within count true = limited s within false false count (record s { stage = stages.Opening }) (record s { stage = stages.Opening; bytes = s.bytes + count }) refl refl
header_is s within count false = refl

module _ (s : State) (line : List ℕ) (within : Extends s.texts s.texts) (free : (w : List ℕ) → is_register w ≡ true → place_of w s.texts.funcs ≡ None) (begun : length s.bodies ≤ widths.functions) where
  abbrev at_stage : stage.Stage → State
  at_stage at = record s { stage = at }

  abbrev count : ℕ
  count = length line

  line_at : (at : stage.Stage) → line_read (at_stage at) line ≡ answered (cause_of (at_stage at) line) (after (at_stage at) line)
  line_at stages.Header = allowed_by (list_all is_allowed line) _ _ _ (header_is (at_stage stages.Header) within count (are_words (codes "attrs") (codes "1") (two_parts (words_in line))))
  line_at stages.Opening = allowed_by (list_all is_allowed line) _ _ _ (words_are (at_stage stages.Opening) within free begun count (words_in line))
  line_at stages.Functions = allowed_by (list_all is_allowed line) _ _ _ (words_are (at_stage stages.Functions) within free begun count (words_in line))
  line_at (stages.Within kind section) = allowed_by (list_all is_allowed line) _ _ _ (words_are (at_stage (stages.Within kind section)) within free begun count (words_in line))
  line_at stages.Ending = allowed_by (list_all is_allowed line) _ _ _ (words_are (at_stage stages.Ending) within free begun count (words_in line))
  line_at stages.Closed = allowed_by (list_all is_allowed line) _ _ _ (words_are (at_stage stages.Closed) within free begun count (words_in line))

-- a line is read as its first cause says, or what comes after it
pub line_is : (s : State) (line : List ℕ) → IsFine s → line_read s line ≡ answered (cause_of s line) (after s line)
line_is s line fine = line_at s line (extends_itself s.texts fine.names fine.vars) fine.registers (at_most s.stage (length s.bodies) fine.begun) s.stage

-- a line without offence leaves the state fine
pub fine_after : (s : State) (line : List ℕ) → IsFine s → cause_of s line ≡ None → IsFine (after s line)
fine_after s line fine none =
    let texts = few_texts (after s line).texts (ap are_too_many (after_texts s line) ∙ texts_within s line (no_limit s line none)) in
    record {
      names = texts.0;
      vars = texts.1;
      begun = begun_after s line none fine.begun;
      registers = λ w is. ap (λ (t : Texts). place_of w t.funcs) (after_texts s line) ∙ fine.registers w is;
    }

abbrev pub told_by : Option (ℕ × cause.Cause) → State → Result State ReadFault
told_by None s = Ok s
told_by (Some offence) s = Err (read_faults.Refused offence.0 offence.1)

ends : (number : ℕ) (s : State) (o : Option cause.Cause) → end_read_at number s o ≡ told_by (option_map (λ c. (number, c)) o) s
ends number s None = refl
ends number s (Some c) = refl

step : (number : ℕ) (s : State) (line : List ℕ) (lines : List (List ℕ)) (o : Option cause.Cause)
    → (o ≡ None → lines_read (number + 1) (after s line) lines ≡ told_by (first_from (suc number) (after s line) lines) (fold after (after s line) lines))
    → then_lines number (λ t. lines_read (number + 1) t lines) (answered o (after s line)) ≡ told_by (or (option_map (λ c. (number, c)) o) (first_from (suc number) (after s line) lines)) (fold after (after s line) lines)
step number s line lines None rest = rest refl
step number s line lines (Some c) rest = refl

-- lines are read as their first offence says, or what comes after them
pub lines_are : (number : ℕ) (s : State) (lines : List (List ℕ)) → IsFine s → lines_read number s lines ≡ told_by (first_from number s lines) (fold after s lines)
lines_are number s [] fine = ends number s (end_cause s.stage)
lines_are number s (line ∷ lines) fine =
    ap (then_lines number (λ t. lines_read (number + 1) t lines)) (line_is s line fine)
    ∙ step number s line lines (cause_of s line) (λ none. (let next : number + 1 ≡ suc number = omega arith in ap (λ n. lines_read n (after s line) lines) next) ∙ lines_are (suc number) (after s line) lines (fine_after s line fine none))

-- before the first line the state is fine
pub fine_before : (lines : List (List ℕ)) → IsFine (before_all lines)
fine_before lines = record { names = omega arith; vars = omega arith; begun = omega arith; registers = λ w is. reserved_absent w (unfree w is) (codes "func") lines [] refl }

-- what the text says after its last line
abbrev pub last_state : List ℕ → State
last_state text = fold after (before_all (lines_of text)) (lines_of text)

pub none_first : {A : Type 0} (o rest : Option A) → or o rest ≡ None → (o ≡ None) × (rest ≡ None)
none_first None rest e = (refl, e)
none_first (Some x) rest e = cc

pub unmapped_none : {A B : Type 0} (f : A → B) (o : Option A) → option_map f o ≡ None → o ≡ None
unmapped_none f None e = refl
unmapped_none f (Some x) e = cc

-- lines leave the classes and functions as they are declared
pub fold_texts : (lines : List (List ℕ)) (s : State) → ((fold after s lines).texts.classes ≡ s.texts.classes) × ((fold after s lines).texts.funcs ≡ s.texts.funcs)
fold_texts [] s = (refl, refl)
fold_texts (line ∷ lines) s =
    let k = fold_texts lines (after s line) in
    (k.0 ∙ ap (λ (t : Texts). t.classes) (after_texts s line), k.1 ∙ ap (λ (t : Texts). t.funcs) (after_texts s line))

-- the class of a line without offence has a small number
class_below : (s : State) (line : List ℕ) (lines : List (List ℕ)) → cause_of s line ≡ None → EachBelow widths.classes s.texts.classes (declared_in (codes "class") lines)
    → EachBelow widths.classes s.texts.classes (declared_in (codes "class") (line ∷ lines))
class_below s line lines clean rest = by_declared (declared_by (codes "class") (words_in line)) (declared_below_lemmas.class_of_line s line clean)
  where
    by_declared : (o : Option (List ℕ)) → ((w : List ℕ) → o ≡ Some w → number_in s.texts.classes w < widths.classes) → EachBelow widths.classes s.texts.classes (cons_option o (declared_in (codes "class") lines))
    by_declared None low = rest
    by_declared (Some w) low = (low w refl, rest)

func_below : (s : State) (line : List ℕ) (lines : List (List ℕ)) → cause_of s line ≡ None → EachBelow widths.functions s.texts.funcs (declared_in (codes "func") lines)
    → EachBelow widths.functions s.texts.funcs (declared_in (codes "func") (line ∷ lines))
func_below s line lines clean rest = by_declared (declared_by (codes "func") (words_in line)) (declared_below_lemmas.func_of_line s line clean)
  where
    by_declared : (o : Option (List ℕ)) → ((w : List ℕ) → o ≡ Some w → number_in s.texts.funcs w < widths.functions) → EachBelow widths.functions s.texts.funcs (cons_option o (declared_in (codes "func") lines))
    by_declared None low = rest
    by_declared (Some w) low = (low w refl, rest)

-- each class that a line declares has a small number, and each function, where no line has an offence
declared_below : (number : ℕ) (s : State) (lines : List (List ℕ)) → first_from number s lines ≡ None
    → EachBelow widths.classes s.texts.classes (declared_in (codes "class") lines) × EachBelow widths.functions s.texts.funcs (declared_in (codes "func") lines)
declared_below number s [] none = (tt, tt)
declared_below number s (line ∷ lines) none =
    let first = none_first (option_map (λ c. (number, c)) (cause_of s line)) (first_from (suc number) (after s line) lines) none in
    let clean = unmapped_none (λ (c : cause.Cause). (number, c)) (cause_of s line) first.0 in
    let later = declared_below (suc number) (after s line) lines first.1 in
    let kept = after_texts s line in
    let classes : EachBelow widths.classes s.texts.classes (declared_in (codes "class") lines) =
    subst (λ (t : Texts). EachBelow widths.classes t.classes (declared_in (codes "class") lines)) kept later.0 in
    let funcs : EachBelow widths.functions s.texts.funcs (declared_in (codes "func") lines) =
    subst (λ (t : Texts). EachBelow widths.functions t.funcs (declared_in (codes "func") lines)) kept later.1 in
    (class_below s line lines clean classes, func_below s line lines clean funcs)

-- a text without offence declares no more classes and functions than there may be
pub few_declared : (text : List ℕ) → first_offence text ≡ None → (length (last_state text).texts.classes ≤ widths.classes) × (length (last_state text).texts.funcs ≤ widths.functions)
few_declared text none =
    let lines = lines_of text in
    let below = declared_below 1 (before_all lines) lines none in
    let same = fold_texts lines (before_all lines) in
    let classes = few_of widths.classes (codes "object" ∷ []) (declared_in (codes "class") lines) (omega arith) below.0 in
    let funcs = few_of widths.functions [] (declared_in (codes "func") lines) (omega arith) below.1 in (
      subst (λ (cs : List (List ℕ)). length cs ≤ widths.classes) (sym same.0) classes,
      subst (λ (fs : List (List ℕ)). length fs ≤ widths.functions) (sym same.1) funcs,
    )

-- what was read of a whole text

unrefused : (o : Option (ℕ × cause.Cause)) (s t : State) → Ok s ≡ told_by o t → (o ≡ None) × (s ≡ t)
unrefused None s t e = (refl, cc)
unrefused (Some offence) s t e = absurd cc

pub accepted : (text : List ℕ) (s : State) → Ok s ≡ lines_read 1 (before_all (lines_of text)) (lines_of text) → (first_offence text ≡ None) × (s ≡ fold after (before_all (lines_of text)) (lines_of text))
accepted text s e = unrefused (first_offence text) s (fold after (before_all (lines_of text)) (lines_of text)) (e ∙ lines_are 1 (before_all (lines_of text)) (lines_of text) (fine_before (lines_of text)))

pub is_script : (text : List ℕ) (s : State) → (first_offence text ≡ None) × (s ≡ fold after (before_all (lines_of text)) (lines_of text)) → IsScript text (parts_of s)
is_script text s (none, is) = ap (λ o. if_no_offence o (script_in text)) none ∙ ap (λ t. Some (parts_of t)) (sym is)

refused_by : (o : Option (ℕ × cause.Cause)) (line : ℕ) (c : cause.Cause) (t : State) → Err (read_faults.Refused line c) ≡ told_by o t → o ≡ Some (line, c)
refused_by None line c t e = absurd cc
refused_by (Some (number, d)) line c t e = cc

pub refused : (text : List ℕ) (line : ℕ) (c : cause.Cause) → Err (read_faults.Refused line c) ≡ lines_read 1 (before_all (lines_of text)) (lines_of text) → first_offence text ≡ Some (line, c)
refused text line c e = refused_by (first_offence text) line c (fold after (before_all (lines_of text)) (lines_of text)) (e ∙ lines_are 1 (before_all (lines_of text)) (lines_of text) (fine_before (lines_of text)))

-- the fault of a reading is the first offence, or that memory ran out
pub fault_told : {A : Type 0} (text : List ℕ) (r : Result A ReadFault) (s : State) (f : ReadFault) → r ≡ Err f → IfToldRead r (left_read r s ≡ lines_read 1 (before_all (lines_of text)) (lines_of text)) → IsFaultAt (first_offence text) f
fault_told {A} text r s (read_faults.Refused line c) is told =
    let P : Result A ReadFault → Type 0 = λ x. IfToldRead x (left_read x s ≡ lines_read 1 (before_all (lines_of text)) (lines_of text)) in
    refused text line c (subst P is told)
fault_told text r s read_faults.NoMemory is told = tt

-- what is so of a fault is so of the result that has it
pub fault_of_result : {A : Type 0} (r : Result A ReadFault) (f : ReadFault) (Q : ReadFault → Type 0) → IsErrAnd r (λ y. y ≡ f) → Q f → IfErr r Q
fault_of_result (Ok x) f Q h q = tt
fault_of_result (Err y) f Q h q = subst Q (sym h) q
