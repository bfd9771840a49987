-- What the reader makes of a line that says a budget, or begins or ends a block.
use Rattle.std.proofs.Common.{◌≡◌, ◌∙◌, ap, refl, sym, ℕ, ℤ, pos, negsuc, ◌+◌, ◌≤◌, arith, List, [], ◌∷◌, ◌++◌, length, append-nil, Bool, true, false, cond, not, ◌||◌, ◌&&◌, ltb, leb, Option, Some, None, Result, Ok, inl, inr}
use Rattle.std.specs.Option.{option_map}
use Rattle.std.proofs.lemmas.Bool.{cases_Bool, lt-ltb, le-ltb, ltb-true, ltb-false, le-leb, lt-leb, leb-true, leb-false}
use Rattle.std.proofs.lemmas.Bool.Decides.{nat_tests}
use Rattle.at_value.specs.Widths as widths
use Rattle.at_name.specs.Texts.{place_of}
use Rattle.at_script.specs.declared.fault.Cause.TheVariants as causes
use Rattle.at_script.specs.declared.fault.LineFault.{LineFault}
use Rattle.at_script.specs.declared.keyword.Keyword as keyword
use Rattle.at_script.specs.declared.keyword.Keyword.TheVariants as keywords
use Rattle.at_script.specs.declared.stage.BlockKind as block_kind
use Rattle.at_script.specs.declared.stage.BlockKind.TheVariants as block_kinds
use Rattle.at_script.specs.declared.stage.Stage as stage
use Rattle.at_script.specs.declared.stage.Stage.TheVariants as stages
use Rattle.at_script.specs.declared.stmt.Stmt.{Stmt}
use Rattle.at_script.specs.Limits as limits
use Rattle.at_script.specs.Meanings.{func_number}
use Rattle.at_script.specs.Pieces.{one_part}
use Rattle.at_script.specs.Words.{is_free, number_of, is_in_range, is_budget, is_register}
use Rattle.at_script.specs.Literals.{◌>>=◌}
use Rattle.at_script.specs.Shapes as shapes
use Rattle.at_script.specs.Shapes.{Said, words_say}
use Rattle.at_script.specs.Texts.{number_in}
use Rattle.at_script.specs.State.{State}
use Rattle.at_script.specs.Causes.{are_too_many, begins_thread}
use Rattle.at_script.specs.Script.{budget_of, ended, ending, led_by, after_said}
use Rattle.at_script.specs.Reading.{unless}
use Rattle.at_script.specs.Taking.{wrong, mapped, begun_at, function_begun}
use Rattle.at_script.specs.LineReading.{then_counted, keyword_read, number_word, budget_found, function_named}
use Rattle.at_script.proofs.Extended.{Extends}
use Rattle.at_script.proofs.Takes.{few}
use Rattle.at_script.proofs.TakenClasses.{number_or_next}
use Rattle.at_script.proofs.StatementLines.{answered, is_over, cause_said, count_by}
use Rattle.at_script.proofs.StatementRows as rows

-- a line that numbers nothing, and may bring one count above its limit in one way or another
limited_by : (over a b : Bool) (count : ℕ) (u v : State) → is_over u count ≡ over → record u { bytes = u.bytes + count } ≡ v
    → then_counted count (unless (cond (a || b) (Some causes.Limit) None) u) ≡ answered (cond (over || a || false || b) (Some causes.Limit) None) v
limited_by true true b count u v is same = refl
limited_by false true b count u v is same = refl
limited_by true false true count u v is same = refl
limited_by false false true count u v is same = refl
limited_by true false false count u v is same = count_by true count u v is (λ e. same)
limited_by false false false count u v is same = count_by false count u v is (λ e. same)

module _ (s : State) (within : Extends s.texts s.texts) where
  -- the state after a line that numbers nothing and has no statement
  abbrev blank : ℕ → State
  blank count = record s { bytes = s.bytes + count; block = s.block ++ [] }

  pub limited : (a b : Bool) (count : ℕ) (u v : State) → u.bytes ≡ s.bytes → record u { bytes = u.bytes + count } ≡ v
      → then_counted count (unless (cond (a || b) (Some causes.Limit) None) u) ≡ answered (cond (is_over s count || a || are_too_many s.texts || b) (Some causes.Limit) None) v
  limited a b count u v bytes same =
      limited_by (is_over s count) a b count u v (ap (λ n. ltb limits.most_bytes (n + count)) bytes) same
      ∙ ap (λ x. answered (cond (is_over s count || a || x || b) (Some causes.Limit) None) v) (sym (few s.texts 0 s.texts within))

  abbrev Line : keyword.Keyword → List (List ℕ) → ℕ → Type 0
  Line k words count =
      then_counted count (keyword_read s k words) ≡ answered (cause_said s count (begins_thread (Some k) && leb limits.most_threads (length s.threads)) (words_say k words)) (after_said (words_say k words) (record s { bytes = s.bytes + count }))

  -- with nothing more in the block
  same_block : (count : ℕ) (g : State → State) (u : State) → g (record s { bytes = s.bytes + count }) ≡ u → u ≡ g (blank count)
  same_block count g u is = sym is ∙ ap (λ (block : List Stmt). g (record s { bytes = s.bytes + count; block = block })) (sym (append-nil s.block))

  -- a budget

  budget_small : (z : ℤ) → is_budget z ≡ true → is_in_range z ≡ true
  budget_small (pos n) h = grind (arith, nat_tests)
  budget_small (negsuc n) h = grind (arith, nat_tests)

  budgeted : (z : ℤ) (b : Bool) → is_budget z ≡ b → budget_found (Some z) ≡ unless (cond (not b) (Some causes.Number) None) (budget_of z)
  budgeted z true is = rw (budget_small z is, is) refl
  budgeted z false is =
      elim (cases_Bool (is_in_range z)) [
        | inl e ↦ rw (e, is) refl
        | inr e ↦ rw e refl
      ]

  word_number : (o : Option (List ℕ)) → number_word o ≡ (o >>= number_of)
  word_number None = refl
  word_number (Some word) = refl

  abbrev with_budget : ℕ → State
  with_budget n = record s { budget = n; stage = stages.Functions }

  budget_by : (count : ℕ) (o : Option ℤ)
      → then_counted count (mapped with_budget (budget_found o)) ≡ answered (cause_said s count false (option_map shapes.budget o)) (after_said (option_map shapes.budget o) (record s { bytes = s.bytes + count }))
  budget_by count None = refl
  budget_by count (Some z) =
      elim (cases_Bool (is_budget z)) [
        | inl e ↦
            ap (λ r. then_counted count (mapped with_budget r)) (budgeted z true e)
            ∙ limited false false count (with_budget (budget_of z)) (led_by (shapes.budget z) (blank count)) refl (same_block count (led_by (shapes.budget z)) (record (with_budget (budget_of z)) { bytes = s.bytes + count }) refl)
            ∙ ap (λ b. answered (cond (not b || false) (Some causes.Number) (cond (is_over s count || false || are_too_many s.texts || false) (Some causes.Limit) None)) (led_by (shapes.budget z) (blank count))) (sym e)
        | inr e ↦
            ap (λ r. then_counted count (mapped with_budget r)) (budgeted z false e)
            ∙ ap (λ b. answered (cond (not b || false) (Some causes.Number) (cond (is_over s count || false || are_too_many s.texts || false) (Some causes.Limit) None)) (led_by (shapes.budget z) (blank count))) (sym e)
      ]

  budget_line : (words : List (List ℕ)) (count : ℕ) → Line keywords.Budget words count
  budget_line words count = ap (λ o. then_counted count (mapped with_budget (budget_found o))) (word_number (one_part words)) ∙ budget_by count (one_part words >>= number_of)

  -- a function

  func_cut : (n : ℕ) → leb widths.functions (func_number n) ≡ leb widths.functions n
  func_cut n = elim (cases_Bool (leb widths.functions n)) [
    | inl e ↦ le-leb widths.functions (func_number n) (let le = leb-true widths.functions n e in omega arith) ∙ sym e
    | inr e ↦ lt-leb widths.functions (func_number n) (let lt = leb-false widths.functions n e in omega arith) ∙ sym e
  ]

  func_before : (n begun : ℕ) → begun ≤ widths.functions → ltb (func_number n) begun ≡ ltb n begun
  func_before n begun h = elim (cases_Bool (ltb n begun)) [
    | inl e ↦ lt-ltb (func_number n) begun (let lt = ltb-true n begun e in omega arith) ∙ sym e
    | inr e ↦ le-ltb (func_number n) begun (let ge = ltb-false n begun e in omega arith) ∙ sym e
  ]

  abbrev in_function : State
  in_function = record s { stage = stages.Within block_kinds.Func false }

  abbrev function_answer : ℕ → List ℕ → Bool → Bool → Bool → Result State LineFault
  function_answer count f free begun many =
      answered (cond (not free || begun || false) (Some causes.Name) (cond (is_over s count || (many || false) || are_too_many s.texts || false) (Some causes.Limit) None)) (led_by (shapes.func f) (blank count))

  abbrev begun_by : Bool → Bool → Bool → Result (Unit {0}) LineFault
  begun_by free begun many = cond (not free) (wrong causes.Name) (cond begun (wrong causes.Name) (cond many (wrong causes.Limit) (Ok tt)))

  function_by : (count : ℕ) (f : List ℕ) (free begun many : Bool)
      → then_counted count (mapped (λ _. in_function) (begun_by free begun many)) ≡ function_answer count f free begun many
  function_by count f false begun many = refl
  function_by count f true true many = refl
  function_by count f true false true = limited true false count in_function (led_by (shapes.func f) (blank count)) refl (same_block count (led_by (shapes.func f)) (record in_function { bytes = s.bytes + count }) refl)
  function_by count f true false false = limited false false count in_function (led_by (shapes.func f) (blank count)) refl (same_block count (led_by (shapes.func f)) (record in_function { bytes = s.bytes + count }) refl)

  begun_is : (f : List ℕ) → length s.bodies ≤ widths.functions
      → function_begun (length s.bodies) s.texts f ≡ begun_by (is_free f) (ltb (number_in s.texts.funcs f) (length s.bodies)) (leb widths.functions (number_in s.texts.funcs f))
  begun_is f h =
      ap (λ n. cond (not (is_free f)) (wrong causes.Name) (begun_at (length s.bodies) n)) (number_or_next f s.texts.funcs func_number (place_of f s.texts.funcs) refl)
      ∙ ap (λ b. begun_by (is_free f) b (leb widths.functions (func_number (number_in s.texts.funcs f)))) (func_before (number_in s.texts.funcs f) (length s.bodies) h)
      ∙ ap (begun_by (is_free f) (ltb (number_in s.texts.funcs f) (length s.bodies))) (func_cut (number_in s.texts.funcs f))

  function_of : (count : ℕ) (o : Option (List ℕ)) → length s.bodies ≤ widths.functions
      → then_counted count (function_named s o) ≡ answered (cause_said s count false (option_map shapes.func o)) (after_said (option_map shapes.func o) (record s { bytes = s.bytes + count }))
  function_of count None h = refl
  function_of count (Some f) h =
      ap (λ r. then_counted count (mapped (λ _. in_function) r)) (begun_is f h)
      ∙ function_by count f (is_free f) (ltb (number_in s.texts.funcs f) (length s.bodies)) (leb widths.functions (number_in s.texts.funcs f))

  -- the lines that have one word

  main_line : (words : List (List ℕ)) (count : ℕ) → Line keywords.Main words count
  main_line [] count = limited false false count (record s { stage = stages.Within block_kinds.Main false }) (led_by shapes.main (blank count)) refl (same_block count (led_by shapes.main) (record s { stage = stages.Within block_kinds.Main false; bytes = s.bytes + count }) refl)
  main_line (word ∷ words) count = refl

  finally_line : (words : List (List ℕ)) (count : ℕ) → Line keywords.Finally words count
  finally_line [] count = limited false false count (record s { stage = stages.Within block_kinds.Finally false }) (led_by shapes.finally (blank count)) refl (same_block count (led_by shapes.finally) (record s { stage = stages.Within block_kinds.Finally false; bytes = s.bytes + count }) refl)
  finally_line (word ∷ words) count = refl

  abbrev in_thread : State
  in_thread = record s { stage = stages.Within block_kinds.Thread false }

  room : (b : Bool) → cond b (wrong causes.Limit) (Ok in_thread) ≡ unless (cond b (Some causes.Limit) None) in_thread
  room true = refl
  room false = refl

  thread_line : (words : List (List ℕ)) (count : ℕ) → Line keywords.Thread words count
  thread_line [] count =
      ap (then_counted count) (room (leb limits.most_threads (length s.threads)))
      ∙ limited false (leb limits.most_threads (length s.threads)) count in_thread (led_by shapes.thread (blank count)) refl (same_block count (led_by shapes.thread) (record in_thread { bytes = s.bytes + count }) refl)
  thread_line (word ∷ words) count = refl

  ending_counts : (kind : block_kind.BlockKind) (count : ℕ) → ((ending kind s).bytes ≡ s.bytes) × (record (ending kind s) { bytes = (ending kind s).bytes + count } ≡ ending kind (record s { bytes = s.bytes + count }))
  ending_counts block_kinds.Func count = (refl, refl)
  ending_counts block_kinds.Main count = (refl, refl)
  ending_counts block_kinds.Thread count = (refl, refl)
  ending_counts block_kinds.Finally count = (refl, refl)

  ended_counts : (at : stage.Stage) (count : ℕ) → ((ended at s).bytes ≡ s.bytes) × (record (ended at s) { bytes = (ended at s).bytes + count } ≡ ended at (record s { bytes = s.bytes + count }))
  ended_counts (stages.Within kind section) count = ending_counts kind count
  ended_counts stages.Header count = (refl, refl)
  ended_counts stages.Opening count = (refl, refl)
  ended_counts stages.Functions count = (refl, refl)
  ended_counts stages.Ending count = (refl, refl)
  ended_counts stages.Closed count = (refl, refl)

  end_line : (words : List (List ℕ)) (count : ℕ) → Line keywords.End words count
  end_line [] count =
      let counts = ended_counts s.stage count in
      limited false false count (ended s.stage s) (led_by shapes.end (blank count)) counts.0 (counts.1 ∙ same_block count (ended s.stage) (ended s.stage (record s { bytes = s.bytes + count })) refl)
  end_line (word ∷ words) count = refl

  -- Any keyword. No function is called as a register is.
  pub keyword_line : ((w : List ℕ) → is_register w ≡ true → place_of w s.texts.funcs ≡ None) → length s.bodies ≤ widths.functions → (k : keyword.Keyword) (words : List (List ℕ)) (count : ℕ) → Line k words count
  keyword_line free begun keywords.Attrs words count = refl
  keyword_line free begun keywords.Budget words count = budget_line words count
  keyword_line free begun keywords.Func words count = function_of count (shapes.identifier words) begun
  keyword_line free begun keywords.Main words count = main_line words count
  keyword_line free begun keywords.Thread words count = thread_line words count
  keyword_line free begun keywords.Finally words count = finally_line words count
  keyword_line free begun keywords.End words count = end_line words count
  keyword_line free begun keywords.Class words count = rows.class_row s within free words count
  keyword_line free begun keywords.Bases words count = rows.bases_row s within free words count
  keyword_line free begun keywords.Put words count = rows.put_row s within free words count
  keyword_line free begun keywords.Cut words count = rows.cut_row s within free words count
  keyword_line free begun keywords.New words count = rows.new_row s within free words count
  keyword_line free begun keywords.Set words count = rows.set_row s within free words count
  keyword_line free begun keywords.Del words count = rows.del_row s within free words count
  keyword_line free begun keywords.Get words count = rows.get_row s within free words count
  keyword_line free begun keywords.Turn words count = rows.turn_row s within free words count
  keyword_line free begun keywords.Share words count = rows.share_row s within free words count
  keyword_line free begun keywords.Super words count = rows.super_row s within free words count
  keyword_line free begun keywords.Special words count = rows.special_row s within free words count
  keyword_line free begun keywords.ClassOf words count = rows.classof_row s within free words count
  keyword_line free begun keywords.Mro words count = rows.mro_row s within free words count
  keyword_line free begun keywords.Call words count = rows.call_row s within free words count
  keyword_line free begun keywords.CallSuper words count = rows.call_super_row s within free words count
  keyword_line free begun keywords.Let words count = rows.let_row s within free words count
  keyword_line free begun keywords.Return words count = rows.return_row s within free words count
  keyword_line free begun keywords.Begin words count = rows.begin_row s within free words count
  keyword_line free begun keywords.Finish words count = rows.finish_row s within free words count
  keyword_line free begun keywords.Checkpoint words count = rows.checkpoint_row s within free words count
