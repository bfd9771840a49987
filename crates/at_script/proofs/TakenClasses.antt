-- Classes and functions, as they are read.
use Rattle.std.proofs.Common.{◌≡◌, ◌∙◌, ap, refl, sym, ℕ, arith, List, [], ◌∷◌, length, Bool, true, false, cond, not, ◌||◌, ◌&&◌, leb, Option, Some, None, is_some, is_none, unwrap_or, Ok, Err, bytes_eq, inl, inr}
use Rattle.std.specs.Option.{option_map}
use Rattle.std.proofs.lemmas.Bool.{cases_Bool, le-leb, lt-leb, leb-true, leb-false}
use Rattle.at_value.specs.Widths as widths
use Rattle.at_name.specs.Texts.{place_of}
use Rattle.at_script.specs.declared.fault.Cause.TheVariants as causes
use Rattle.at_script.specs.declared.fault.LineFault.TheVariants.{Wrong}
use Rattle.at_script.specs.Meanings.{class_number, func_number}
use Rattle.at_script.specs.Words.{is_free, is_object}
use Rattle.at_script.specs.Texts.{Texts, meaning_by, number_in}
use Rattle.at_script.specs.Uses as uses
use Rattle.at_script.specs.Causes.{means_function, means_class, means_variable}
use Rattle.at_script.specs.Statements.{class_numbered, func_numbered, class_at, func_at}
use Rattle.at_script.specs.Reading.{unless, is_below}
use Rattle.at_script.specs.Taking.{wrong, class_found, class_taken, subject_numbered, subject_taken, function_found, function_taken}
use Rattle.at_script.proofs.Cuts.{none_at}
use Rattle.at_script.proofs.Numbered.{place_within}
use Rattle.at_script.proofs.Outcomes.{chosen}
use Rattle.at_script.proofs.Extended.{found_number}
use Rattle.at_script.proofs.Takes.{Takes, takes_over, told_alone}

-- a number that is cut twice
pub class_again : (n : ℕ) → class_numbered (class_number n) ≡ class_numbered n
class_again n = omega arith

pub func_again : (n : ℕ) → func_numbered (func_number n) ≡ func_numbered n
func_again n = omega arith

-- A class

class_found_is : (earlier : ℕ) (t : Texts) (w : List ℕ) (v : Bool) (c : Option ℕ) → place_of w t.classes ≡ c → is_below earlier (place_of w t.vars) ≡ v
    → class_found earlier t w (option_map class_number c) ≡ unless (cond (is_none c && v) (Some causes.Name) (cond (is_none c) (Some causes.Class) None)) (class_at t w)
class_found_is earlier t w v (Some n) at below = ap Ok (class_again n ∙ ap class_numbered (sym (found_number w t.classes n at).1))
class_found_is earlier t w true None at below = rw below refl
class_found_is earlier t w false None at below = rw below refl

class_chosen : (x : ℕ) (free object : Bool) (f c : Option ℕ) (v : Bool)
    → cond (not free && not object) (wrong causes.Name) (cond (is_some (option_map func_number f)) (wrong causes.Name) (unless (cond (is_none c && v) (Some causes.Name) (cond (is_none c) (Some causes.Class) None)) x))
    ≡ unless (chosen false ((not (free || object) || means_function (meaning_by f c) || (means_variable (meaning_by f c) && v)) || false) (is_none c || false) false false) x
class_chosen x false false f c v = refl
class_chosen x true object (Some n) c v = refl
class_chosen x true object None (Some n) v = refl
class_chosen x true object None None true = refl
class_chosen x true object None None false = refl
class_chosen x false true (Some n) c v = refl
class_chosen x false true None (Some n) v = refl
class_chosen x false true None None true = refl
class_chosen x false true None None false = refl

module _ (first : Texts) (begun : ℕ) where
  pub takes_class : (w : List ℕ) → Takes first begun (uses.class w ∷ []) (λ to. class_at to w) (λ t. (class_taken (length first.vars) t w, t))
  takes_class w =
      takes_over first begun (uses.class w ∷ []) (λ to. class_at to w) (λ t. (class_taken (length first.vars) t w, t)) (λ names vars at.
      let t : Texts = record first { names = names; vars = vars } in
      let v : Bool = is_some (place_of w first.vars) in
      told_alone first begun (uses.class w ∷ []) (λ to. class_at to w) t (class_taken (length first.vars) t w) (class_at first w) at refl
      (ap (λ r. cond (not (is_free w) && not (is_object w)) (wrong causes.Name) (cond (is_some (option_map func_number (place_of w first.funcs))) (wrong causes.Name) r)) (class_found_is (length first.vars) t w v (place_of w first.classes) refl (at.earlier w))
      ∙ class_chosen (class_at first w) (is_free w) (is_object w) (place_of w first.funcs) (place_of w first.classes) v)
      (λ c to on. ap (λ cs. class_numbered (number_in cs w)) on.classes))

-- A function

function_found_is : (earlier : ℕ) (t : Texts) (w : List ℕ) (v : Bool) (f c : Option ℕ) → place_of w t.funcs ≡ f → place_of w t.classes ≡ c → is_below earlier (place_of w t.vars) ≡ v
    → function_found earlier t w (option_map func_number f) ≡ unless (cond (is_none f && (is_some c || v)) (Some causes.Name) (cond (is_none f) (Some causes.Func) None)) (func_at t w)
function_found_is earlier t w v (Some n) c at on below = ap Ok (func_again n ∙ ap func_numbered (sym (found_number w t.funcs n at).1))
function_found_is earlier t w v None (Some n) at on below = rw on refl
function_found_is earlier t w true None None at on below = rw (on, below) refl
function_found_is earlier t w false None None at on below = rw (on, below) refl

function_chosen : (x : ℕ) (free : Bool) (f c : Option ℕ) (v : Bool)
    → cond (not free) (wrong causes.Name) (unless (cond (is_none f && (is_some c || v)) (Some causes.Name) (cond (is_none f) (Some causes.Func) None)) x)
    ≡ unless (chosen false ((not free || means_class (meaning_by f c) || (means_variable (meaning_by f c) && v)) || false) false (is_none f || false) false) x
function_chosen x false f c v = refl
function_chosen x true (Some n) c v = refl
function_chosen x true None (Some n) v = refl
function_chosen x true None None true = refl
function_chosen x true None None false = refl

module _ (first : Texts) (begun : ℕ) where
  pub takes_function : (w : List ℕ) → Takes first begun (uses.function w ∷ []) (λ to. func_at to w) (λ t. (function_taken (length first.vars) t w, t))
  takes_function w =
      takes_over first begun (uses.function w ∷ []) (λ to. func_at to w) (λ t. (function_taken (length first.vars) t w, t)) (λ names vars at.
      let t : Texts = record first { names = names; vars = vars } in
      let v : Bool = is_some (place_of w first.vars) in
      told_alone first begun (uses.function w ∷ []) (λ to. func_at to w) t (function_taken (length first.vars) t w) (func_at first w) at refl
      (ap (λ r. cond (not (is_free w)) (wrong causes.Name) r) (function_found_is (length first.vars) t w v (place_of w first.funcs) (place_of w first.classes) refl refl (at.earlier w))
      ∙ function_chosen (func_at first w) (is_free w) (place_of w first.funcs) (place_of w first.classes) v)
      (λ c to on. ap (λ fs. func_numbered (number_in fs w)) on.funcs))

-- The class that a line makes

-- the number of a text that is there, or that of the next
pub number_or_next : (w : List ℕ) (texts : List (List ℕ)) (cut : ℕ → ℕ) (o : Option ℕ) → place_of w texts ≡ o → unwrap_or (option_map cut o) (cut (length texts)) ≡ cut (number_in texts w)
number_or_next w texts cut (Some n) h = ap cut (sym (found_number w texts n h).1)
number_or_next w texts cut None h =
    let low = none_at (number_in texts w) (length texts) h in
    let high = place_within (bytes_eq w) texts in
    ap cut (omega arith)

class_cut : (n : ℕ) → leb widths.classes (class_number n) ≡ leb widths.classes n
class_cut n = elim (cases_Bool (leb widths.classes n)) [
  | inl e ↦ le-leb widths.classes (class_number n) (let le = leb-true widths.classes n e in omega arith) ∙ sym e
  | inr e ↦ lt-leb widths.classes (class_number n) (let lt = leb-false widths.classes n e in omega arith) ∙ sym e
]

subject_is : (n : ℕ) → subject_numbered (class_number n) ≡ unless (cond (leb widths.classes n) (Some causes.Limit) None) (class_numbered n)
subject_is n = rw (class_cut n, class_again n) (elim (leb widths.classes n) as (λ b. cond b (Err (Wrong causes.Limit)) (Ok (class_numbered n)) ≡ unless (cond b (Some causes.Limit) None) (class_numbered n)) [ true ↦ refl | false ↦ refl ])

subject_chosen : (x : ℕ) (free : Bool) (f c : Option ℕ) (l : Bool)
    → cond (not free) (wrong causes.Name) (cond (is_some (option_map func_number f)) (wrong causes.Name) (unless (cond l (Some causes.Limit) None) x))
    ≡ unless (chosen false ((not free || means_function (meaning_by f c)) || false) false false (l || false)) x
subject_chosen x false f c l = refl
subject_chosen x true (Some n) c l = refl
subject_chosen x true None (Some n) true = refl
subject_chosen x true None (Some n) false = refl
subject_chosen x true None None true = refl
subject_chosen x true None None false = refl

module _ (first : Texts) (begun : ℕ) where
  pub takes_subject : (w : List ℕ) → Takes first begun (uses.subject w ∷ []) (λ to. class_at to w) (λ t. (subject_taken t w, t))
  takes_subject w =
      takes_over first begun (uses.subject w ∷ []) (λ to. class_at to w) (λ t. (subject_taken t w, t)) (λ names vars at.
      let t : Texts = record first { names = names; vars = vars } in
      told_alone first begun (uses.subject w ∷ []) (λ to. class_at to w) t (subject_taken t w) (class_at first w) at refl
      (ap (λ n. cond (not (is_free w)) (wrong causes.Name) (cond (is_some (option_map func_number (place_of w first.funcs))) (wrong causes.Name) (subject_numbered n))) (number_or_next w first.classes class_number (place_of w first.classes) refl)
      ∙ ap (λ r. cond (not (is_free w)) (wrong causes.Name) (cond (is_some (option_map func_number (place_of w first.funcs))) (wrong causes.Name) r)) (subject_is (number_in first.classes w))
      ∙ subject_chosen (class_at first w) (is_free w) (place_of w first.funcs) (place_of w first.classes) (leb widths.classes (number_in first.classes w)))
      (λ c to on. ap (λ cs. class_numbered (number_in cs w)) on.classes))
