-- Values, bases and pairs of owners, as they are read.
use Rattle.std.proofs.Common.{◌≡◌, refl, sym, subst, ℕ, ℤ, List, [], ◌∷◌, ◌++◌, map, length, append_assoc, append-nil, Bool, true, false, cond, not, ◌||◌, Option, Some, None, Result, Ok}
use Rattle.std.specs.Option.{option_map, option_to_list}
use Rattle.at_value.specs.declared.value.Value.TheVariants as values
use Rattle.at_name.specs.Texts.{place_of}
use Rattle.at_script.specs.declared.fault.Cause.TheVariants as causes
use Rattle.at_script.specs.declared.fault.LineFault.{LineFault}
use Rattle.at_script.specs.declared.stmt.Operand.TheVariants as operands
use Rattle.at_script.specs.Literals as literals
use Rattle.at_script.specs.Literals.{Written}
use Rattle.at_script.specs.Words.{is_register, is_in_range}
use Rattle.at_script.specs.Texts.{Texts}
use Rattle.at_script.specs.Uses as uses
use Rattle.at_script.specs.Uses.{Use, value_uses, given_uses}
use Rattle.at_script.specs.Statements.{class_at, func_at, name_at, target_at, operand_at}
use Rattle.at_script.specs.Reading.{unless}
use Rattle.at_script.specs.Taking.{Taken, wrong, class_taken, bases_taken, with_base, function_taken, part_taken, integer_taken, value_taken, given_taken, owner_taken, second_owner_taken, attribute_taken, class_attribute_taken, attribute_name_taken, made_of, both_taken}
use Rattle.at_script.proofs.Outcomes.{chosen}
use Rattle.at_script.proofs.Takes.{Takes, takes_made, takes_same, takes_both, told_alone}
use Rattle.at_script.proofs.TakenClasses.{takes_class, takes_function}
use Rattle.at_script.proofs.TakenNames.{takes_attribute_name, takes_text}
use Rattle.at_script.proofs.TakenOwners.{takes_owner, takes_named}

integer_chosen : (z : ℤ) (in_range : Bool) → cond in_range (Ok (operands.Value (values.Int z))) (wrong causes.Number) ≡ unless (chosen (not in_range || false) false false false false) (operands.Value (values.Int z))
integer_chosen z true = refl
integer_chosen z false = refl

module _ (first : Texts) (begun : ℕ) where
  takes_part : (o : Option (List ℕ)) → Takes first begun (map uses.function (option_to_list o)) (λ to. option_map (func_at to) o) (λ t. (part_taken (length first.vars) t o, t))
  takes_part None = λ t at. told_alone first begun [] (λ to. None) t (Ok None) None at refl refl (λ c to on. refl)
  takes_part (Some w) =
      takes_made first begun (uses.function w ∷ []) (λ to. func_at to w) (λ t. (function_taken (length first.vars) t w, t)) Some (takes_function first begun w)

  three : (r w d : Option (List ℕ)) → (map uses.function (option_to_list r) ++ map uses.function (option_to_list w)) ++ map uses.function (option_to_list d) ≡ map uses.function (option_to_list r ++ option_to_list w ++ option_to_list d)
  three None None None = refl
  three None None (Some d) = refl
  three None (Some w) None = refl
  three None (Some w) (Some d) = refl
  three (Some r) None None = refl
  three (Some r) None (Some d) = refl
  three (Some r) (Some w) None = refl
  three (Some r) (Some w) (Some d) = refl

  takes_property : (r w d : Option (List ℕ)) → Takes first begun (map uses.function (option_to_list r ++ option_to_list w ++ option_to_list d)) (λ to. operand_at to (literals.prop r w d)) (λ t. value_taken (length first.vars) t (literals.prop r w d))
  takes_property r w d =
      let parts = takes_both first begun (map uses.function (option_to_list r)) (map uses.function (option_to_list w)) (λ to. option_map (func_at to) r) (λ to. option_map (func_at to) w) (λ t. (part_taken (length first.vars) t r, t)) (λ t. (part_taken (length first.vars) t w, t)) (takes_part r) (takes_part w) in
      let all = takes_both first begun (map uses.function (option_to_list r) ++ map uses.function (option_to_list w)) (map uses.function (option_to_list d)) (λ to. (option_map (func_at to) r, option_map (func_at to) w)) (λ to. option_map (func_at to) d) (λ t. both_taken (part_taken (length first.vars) t r, t) (λ u. (part_taken (length first.vars) u w, u))) (λ t. (part_taken (length first.vars) t d, t)) parts (takes_part d) in
      let property = takes_made first begun ((map uses.function (option_to_list r) ++ map uses.function (option_to_list w)) ++ map uses.function (option_to_list d)) (λ to. ((option_map (func_at to) r, option_map (func_at to) w), option_map (func_at to) d)) (λ t. both_taken (both_taken (part_taken (length first.vars) t r, t) (λ u. (part_taken (length first.vars) u w, u))) (λ u. (part_taken (length first.vars) u d, u))) (λ (p : (Option ℕ × Option ℕ) × Option ℕ). values.Prop (record { get = p.0.0; set = p.0.1; del = p.1 })) all in
      let value = takes_made first begun ((map uses.function (option_to_list r) ++ map uses.function (option_to_list w)) ++ map uses.function (option_to_list d)) (λ to. values.Prop (record { get = option_map (func_at to) r; set = option_map (func_at to) w; del = option_map (func_at to) d })) (λ t. made_of (λ (p : (Option ℕ × Option ℕ) × Option ℕ). values.Prop (record { get = p.0.0; set = p.0.1; del = p.1 })) (both_taken (both_taken (part_taken (length first.vars) t r, t) (λ u. (part_taken (length first.vars) u w, u))) (λ u. (part_taken (length first.vars) u d, u)))) operands.Value property in
      subst (λ us. Takes first begun us (λ to. operand_at to (literals.prop r w d)) (λ t. value_taken (length first.vars) t (literals.prop r w d))) (three r w d) value

  -- a value
  pub takes_value : (v : Written) → Takes first begun (value_uses v) (λ to. operand_at to v) (λ t. value_taken (length first.vars) t v)
  takes_value literals.nothing = λ t at.
      told_alone first begun [] (λ to. operands.Value values.Nothing) t (Ok (operands.Value values.Nothing)) (operands.Value values.Nothing) at refl refl (λ c to on. refl)
  takes_value (literals.integer z) = λ t at.
      told_alone first begun (uses.integer z ∷ []) (λ to. operands.Value (values.Int z)) t (integer_taken z) (operands.Value (values.Int z)) at refl (integer_chosen z (is_in_range z)) (λ c to on. refl)
  takes_value (literals.quoted s) = takes_text first begun s
  takes_value (literals.named w) = takes_named first begun w
  takes_value (literals.static f) =
      takes_made first begun (uses.function f ∷ []) (λ to. func_at to f) (λ t. (function_taken (length first.vars) t f, t)) (λ n. operands.Value (values.Static n)) (takes_function first begun f)
  takes_value (literals.classm f) =
      takes_made first begun (uses.function f ∷ []) (λ to. func_at to f) (λ t. (function_taken (length first.vars) t f, t)) (λ n. operands.Value (values.ClassM n)) (takes_function first begun f)
  takes_value (literals.prop r w d) = takes_property r w d

  -- a value that may be left out
  pub takes_given : (v : Option Written) → Takes first begun (given_uses v) (λ to. option_map (operand_at to) v) (λ t. given_taken (length first.vars) t v)
  takes_given None = λ t at. told_alone first begun [] (λ to. None) t (Ok None) None at refl refl (λ c to on. refl)
  takes_given (Some v) = takes_made first begun (value_uses v) (λ to. operand_at to v) (λ t. value_taken (length first.vars) t v) Some (takes_value v)

  -- bases, after those that were read
  more_bases : (ws : List (List ℕ)) (us : List Use) (f : Texts → List ℕ) (read : Texts → Result (List ℕ) LineFault) → Takes first begun us f (λ t. (read t, t))
      → Takes first begun (us ++ map uses.class ws) (λ to. f to ++ map (class_at to) ws) (λ t. (bases_taken (length first.vars) t (read t) ws, t))
  more_bases [] us f read h =
      subst (λ vs. Takes first begun vs (λ to. f to ++ []) (λ t. (read t, t))) (sym (append-nil us))
      (takes_same first begun us f (λ to. f to ++ []) (λ t. (read t, t)) (λ to. append-nil (f to)) h)
  more_bases (w ∷ ws) us f read h =
      let both = takes_both first begun us (uses.class w ∷ []) f (λ to. class_at to w) (λ t. (read t, t)) (λ t. (class_taken (length first.vars) t w, t)) h (takes_class first begun w) in
      let one = takes_made first begun (us ++ uses.class w ∷ []) (λ to. (f to, class_at to w)) (λ t. both_taken (read t, t) (λ u. (class_taken (length first.vars) u w, u))) (λ (p : List ℕ × ℕ). p.0 ++ p.1 ∷ []) both in
      let all = more_bases ws (us ++ uses.class w ∷ []) (λ to. f to ++ class_at to w ∷ []) (λ t. with_base (length first.vars) t (read t) w) one in
      let take : Texts → Taken (List ℕ) = λ t. (bases_taken (length first.vars) t (with_base (length first.vars) t (read t) w) ws, t) in
      subst (λ vs. Takes first begun vs (λ to. f to ++ class_at to w ∷ map (class_at to) ws) take) (append_assoc us (uses.class w ∷ []) (map uses.class ws))
      (takes_same first begun ((us ++ uses.class w ∷ []) ++ map uses.class ws) (λ to. (f to ++ class_at to w ∷ []) ++ map (class_at to) ws) (λ to. f to ++ class_at to w ∷ map (class_at to) ws) take (λ to. sym (append_assoc (f to) (class_at to w ∷ []) (map (class_at to) ws))) all)

  -- bases
  pub takes_bases : (ws : List (List ℕ)) → Takes first begun (map uses.class ws) (λ to. map (class_at to) ws) (λ t. (bases_taken (length first.vars) t (Ok []) ws, t))
  takes_bases ws = more_bases ws [] (λ to. []) (λ t. Ok []) (λ t at. told_alone first begun [] (λ to. []) t (Ok []) [] at refl refl (λ c to on. refl))

  -- an attribute of a class
  pub takes_class_attribute : (p : List ℕ × List ℕ) → Takes first begun (uses.class p.0 ∷ uses.attribute p.1 ∷ []) (λ to. (class_at to p.0, name_at to p.1)) (λ t. class_attribute_taken (length first.vars) t p)
  takes_class_attribute p =
      takes_both first begun (uses.class p.0 ∷ []) (uses.attribute p.1 ∷ []) (λ to. class_at to p.0) (λ to. name_at to p.1) (λ t. (class_taken (length first.vars) t p.0, t)) (λ u. attribute_name_taken u p.1) (takes_class first begun p.0) (takes_attribute_name first begun p.1)

-- No function is called as a register is.
module _ (first : Texts) (begun : ℕ) (free : (w : List ℕ) → is_register w ≡ true → place_of w first.funcs ≡ None) where
  pub takes_second_owner : (o : Option (List ℕ)) → Takes first begun (map uses.owner (option_to_list o)) (λ to. option_map (target_at to) o) (λ t. second_owner_taken t o)
  takes_second_owner None = λ t at. told_alone first begun [] (λ to. None) t (Ok None) None at refl refl (λ c to on. refl)
  takes_second_owner (Some w) = takes_made first begun (uses.owner w ∷ []) (λ to. target_at to w) (λ t. owner_taken t w) Some (takes_owner first begun free w)

  -- an attribute of an owner
  pub takes_attribute : (p : List ℕ × List ℕ) → Takes first begun (uses.owner p.0 ∷ uses.attribute p.1 ∷ []) (λ to. (target_at to p.0, name_at to p.1)) (λ t. attribute_taken t p)
  takes_attribute p =
      takes_both first begun (uses.owner p.0 ∷ []) (uses.attribute p.1 ∷ []) (λ to. target_at to p.0) (λ to. name_at to p.1) (λ t. owner_taken t p.0) (λ u. attribute_name_taken u p.1) (takes_owner first begun free p.0) (takes_attribute_name first begun p.1)
