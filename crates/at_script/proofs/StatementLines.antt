-- What the reader makes of a line with a statement.
use Rattle.std.proofs.Common.{◌≡◌, ◌∙◌, ap, refl, sym, ℕ, ◌+◌, [], ◌∷◌, ◌++◌, length, Bool, true, false, cond, ◌||◌, ltb, Option, Some, None, is_none, Result, Ok, Err}
use Rattle.std.specs.Option.{option_map, option_to_list}
use Rattle.std.specs.List.{list_any}
use Rattle.at_script.specs.declared.fault.Cause as cause
use Rattle.at_script.specs.declared.fault.Cause.TheVariants as causes
use Rattle.at_script.specs.declared.fault.LineFault.{LineFault}
use Rattle.at_script.specs.declared.fault.LineFault.TheVariants.{Wrong}
use Rattle.at_script.specs.declared.keyword.Keyword as keyword
use Rattle.at_script.specs.declared.stmt.Stmt.{Stmt}
use Rattle.at_script.specs.Limits as limits
use Rattle.at_script.specs.Shapes.{Said}
use Rattle.at_script.specs.Texts.{Texts}
use Rattle.at_script.specs.Uses.{uses_of, with_uses}
use Rattle.at_script.specs.State.{State}
use Rattle.at_script.specs.Causes.{uses_said, is_out_of_range, is_misnamed, is_no_class, is_no_function, is_one_too_many, are_too_many}
use Rattle.at_script.specs.Statements.{statement_of}
use Rattle.at_script.specs.Script.{led_by, with_said, after_said}
use Rattle.at_script.specs.Reading.{unless}
use Rattle.at_script.specs.Taking.{Taken, mapped}
use Rattle.at_script.specs.Stating.{formed}
use Rattle.at_script.specs.LineReading.{stage_after, state_with, then_counted, counted}
use Rattle.at_script.proofs.Outcomes.{chosen, mapped_unless}
use Rattle.at_script.proofs.Extended.{continues_itself}
use Rattle.at_script.proofs.Takes.{IsTold, IsToldClean, any_number, any_name, any_class, any_func}

-- what a line comes to: its first cause, or the state after it
abbrev pub answered : Option cause.Cause → State → Result State LineFault
answered None s = Ok s
answered (Some c) s = Err (Wrong c)

-- the bytes of the text and of a line of this many are too many
abbrev pub is_over : State → ℕ → Bool
is_over s count = ltb limits.most_bytes (s.bytes + count)

-- The first cause of a line that says this, from its form on. The line may begin one thread too many.
abbrev pub cause_said : State → ℕ → Bool → Option Said → Option cause.Cause
cause_said s count thread o =
    cond (is_none o) (Some causes.Form)
    (chosen (list_any is_out_of_range (uses_said o)) (list_any (is_misnamed (length s.bodies) s.texts) (uses_said o)) (list_any (is_no_class s.texts) (uses_said o)) (list_any (is_no_function s.texts) (uses_said o))
    (is_over s count || list_any (is_one_too_many s.texts) (uses_said o) || are_too_many (with_uses s.texts (uses_said o)) || thread))

-- where nothing is wrong but that there may be too many, it is enough to see to that
pub by_limit : (a b c d l m : Bool) (count : ℕ) (u v : State)
    → (a ≡ false → b ≡ false → c ≡ false → d ≡ false → then_counted count (unless (cond l (Some causes.Limit) None) u) ≡ answered (cond m (Some causes.Limit) None) v)
    → then_counted count (unless (chosen a b c d l) u) ≡ answered (chosen a b c d m) v
by_limit true b c d l m count u v h = refl
by_limit false true c d l m count u v h = refl
by_limit false false true d l m count u v h = refl
by_limit false false false true l m count u v h = refl
by_limit false false false false l m count u v h = h refl refl refl refl

-- a line within its other limits is counted
pub count_by : (over : Bool) (count : ℕ) (u v : State) → is_over u count ≡ over → (over ≡ false → record u { bytes = u.bytes + count } ≡ v)
    → counted count u ≡ answered (cond over (Some causes.Limit) None) v
count_by true count u v is same = ap (λ b. cond b (Err (Wrong causes.Limit)) (Ok (record u { bytes = u.bytes + count }))) is
count_by false count u v is same = ap (λ b. cond b (Err (Wrong causes.Limit)) (Ok (record u { bytes = u.bytes + count }))) is ∙ ap Ok (same refl)

all_within : (over a b : Bool) → (a || b) ≡ false → (over || a || b || false) ≡ over
all_within true false false h = refl
all_within false false false h = refl
all_within over true b h = absurd cc
all_within over false true h = absurd cc

one_above : (over a b : Bool) → (a || b) ≡ true → (over || a || b || false) ≡ true
one_above true a b h = refl
one_above false true b h = refl
one_above false false true h = refl
one_above false false false h = absurd cc

module _ (s : State) (k : keyword.Keyword) (count : ℕ) (said : Said) (f : Texts → Stmt) (means : (to : Texts) → statement_of to said ≡ Some (f to)) (led : (u : State) → led_by said u ≡ record u { stage = stage_after k u.stage }) (found : Taken Stmt) (told : IsTold s.texts (length s.bodies) (uses_of said) f s.texts found) where
  abbrev made : Stmt → State
  made statement = record s { texts = found.1; block = s.block ++ statement ∷ []; stage = stage_after k s.stage }

  abbrev last : State
  last = led_by said (with_said said (record s { bytes = s.bytes + count }))

  same_state : IsToldClean s.texts (length s.bodies) (uses_of said) f s.texts found told.limit told.value → told.limit ≡ false → record (made told.value) { bytes = s.bytes + count } ≡ last
  same_state clean within =
      let texts = clean.texts within in
      let value : statement_of found.1 said ≡ Some told.value = means found.1 ∙ ap Some (clean.means within found.1 (continues_itself found.1)) in
      sym (led (with_said said (record s { bytes = s.bytes + count }))
      ∙ ap (λ (t : Texts). record s { bytes = s.bytes + count; texts = t; block = s.block ++ option_to_list (statement_of t said); stage = stage_after k s.stage }) (sym texts)
      ∙ ap (λ (o : Option Stmt). record s { bytes = s.bytes + count; texts = found.1; block = s.block ++ option_to_list o; stage = stage_after k s.stage }) value)

  by_told : (l : Bool) → told.limit ≡ l → IsToldClean s.texts (length s.bodies) (uses_of said) f s.texts found told.limit told.value
      → then_counted count (unless (cond l (Some causes.Limit) None) (made told.value))
      ≡ answered (cond (is_over s count || list_any (is_one_too_many s.texts) (uses_of said) || are_too_many (with_uses s.texts (uses_of said)) || false) (Some causes.Limit) None) last
  by_told true is clean =
      let above = one_above (is_over s count) (list_any (is_one_too_many s.texts) (uses_of said)) (are_too_many (with_uses s.texts (uses_of said))) (sym clean.limited ∙ is) in
      sym (ap (λ b. answered (cond b (Some causes.Limit) None) last) above)
  by_told false is clean =
      let within = all_within (is_over s count) (list_any (is_one_too_many s.texts) (uses_of said)) (are_too_many (with_uses s.texts (uses_of said))) (sym clean.limited ∙ is) in
      count_by (is_over s count) count (made told.value) last refl (λ e. same_state clean is)
      ∙ sym (ap (λ b. answered (cond b (Some causes.Limit) None) last) within)

  -- a line with a statement is read as its first cause says, or its statement is added
  pub statement_line : then_counted count (state_with s k found) ≡ answered (cause_said s count false (Some said)) (after_said (Some said) (record s { bytes = s.bytes + count }))
  statement_line =
      ap (λ r. then_counted count (mapped made r)) told.is
      ∙ ap (then_counted count) (mapped_unless made (chosen (any_number s.texts (length s.bodies) (uses_of said)) (any_name s.texts (length s.bodies) (uses_of said)) (any_class s.texts (length s.bodies) (uses_of said)) (any_func s.texts (length s.bodies) (uses_of said)) told.limit) told.value)
      ∙ by_limit (any_number s.texts (length s.bodies) (uses_of said)) (any_name s.texts (length s.bodies) (uses_of said)) (any_class s.texts (length s.bodies) (uses_of said)) (any_func s.texts (length s.bodies) (uses_of said)) told.limit
      (is_over s count || list_any (is_one_too_many s.texts) (uses_of said) || are_too_many (with_uses s.texts (uses_of said)) || false) count (made told.value) last
      (λ a b c d. by_told told.limit refl (told.clean (record { number = a; name = b; class = c; func = d })))

-- a line of a form, or not
pub formed_line : {P : Type 0} (s : State) (k : keyword.Keyword) (count : ℕ) (say : P → Said) (f : P → Texts → Stmt) (take : P → Taken Stmt) (o : Option P)
    → ((p : P) (to : Texts) → statement_of to (say p) ≡ Some (f p to))
    → ((p : P) (u : State) → led_by (say p) u ≡ record u { stage = stage_after k u.stage })
    → ((p : P) → IsTold s.texts (length s.bodies) (uses_of (say p)) (f p) s.texts (take p))
    → then_counted count (state_with s k (formed s.texts take o)) ≡ answered (cause_said s count false (option_map say o)) (after_said (option_map say o) (record s { bytes = s.bytes + count }))
formed_line s k count say f take None means led told = refl
formed_line s k count say f take (Some p) means led told = statement_line s k count (say p) (f p) (means p) (led p) (take p) (told p)
