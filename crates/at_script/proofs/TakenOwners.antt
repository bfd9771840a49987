-- What statements work on, and values by their names, as they are read.
use Rattle.std.proofs.Common.{◌≡◌, ◌∙◌, ap, refl, sym, subst, ℕ, List, [], ◌∷◌, ◌++◌, codes, Bool, true, false, cond, not, ◌||◌, ◌&&◌, Option, Some, None, is_some, bytes_eq, Ok, inl, inr}
use Rattle.std.specs.Option.{option_map}
use Rattle.std.proofs.lemmas.Bool.{cases_Bool}
use Rattle.std.proofs.lemmas.Slice.Eq.{bytes_eq-Decides}
use Rattle.at_value.specs.declared.value.Value.TheVariants as values
use Rattle.at_name.specs.Texts.{place_of}
use Rattle.at_script.specs.declared.fault.Cause.TheVariants as causes
use Rattle.at_script.specs.declared.stmt.Operand as operand
use Rattle.at_script.specs.declared.stmt.Operand.TheVariants as operands
use Rattle.at_script.specs.declared.stmt.Target as target
use Rattle.at_script.specs.declared.stmt.Target.TheVariants as targets
use Rattle.at_script.specs.declared.word.Register.TheVariants as registers
use Rattle.at_script.specs.Meanings.{class_number, func_number}
use Rattle.at_script.specs.Words.{is_free, is_object, is_short, is_register}
use Rattle.at_script.specs.Texts as texts
use Rattle.at_script.specs.Texts.{Texts, Meaning, with_text, with_texts, meaning_of, meaning_by}
use Rattle.at_script.specs.Uses as uses
use Rattle.at_script.specs.Uses.{if_variable}
use Rattle.at_script.specs.Causes.{means_function}
use Rattle.at_script.specs.Statements.{class_numbered, func_numbered, target_at, targeted_by, named_at, named_by}
use Rattle.at_script.specs.Views.{register_in}
use Rattle.at_script.specs.Taking.{wrong, register_owner, named_owner, class_owner, owner_taken, register_value, named_value, numbered_value, class_value}
use Rattle.at_script.proofs.Extended.{Extends}
use Rattle.at_script.proofs.Takes.{Takes, takes_over, IsTold, any_name, told_alone, told_misnamed}
use Rattle.at_script.proofs.TakenClasses.{class_again, func_again}
use Rattle.at_script.proofs.TakenNames.{told_var}

-- Registers

-- by four tests, of which the first that passes counts
abbrev four : {A : Type 0} → Bool → Bool → Bool → Bool → A → A → A → A → A → A
four a b c d p q r s z = cond a p (cond b q (cond c r (cond d s z)))

four_some : {A : Type 0} (p q r s y z : A) (a b c d : Bool) → (a || b || c || d) ≡ true → four a b c d p q r s z ≡ four a b c d p q r s y
four_some p q r s y z true b c d h = refl
four_some p q r s y z false true c d h = refl
four_some p q r s y z false false true d h = refl
four_some p q r s y z false false false true h = refl
four_some p q r s y z false false false false h = absurd cc

four_none : {A : Type 0} (p q r s z : A) (a b c d : Bool) → (a || b || c || d) ≡ false → four a b c d p q r s z ≡ z
four_none p q r s z false false false false h = refl
four_none p q r s z true b c d h = absurd cc
four_none p q r s z false true c d h = absurd cc
four_none p q r s z false false true d h = absurd cc
four_none p q r s z false false false true h = absurd cc

owner_by : (t : Texts) (w : List ℕ) (a b c d : Bool)
    → register_owner t w (four a b c d (Some registers.SelfArg) (Some registers.Arg) (Some registers.Other) (Some registers.It) None)
    ≡ cond (a || b || c || d) (Ok (four a b c d targets.SelfArg targets.Arg targets.Other targets.It targets.It), t) (named_owner t w)
owner_by t w true b c d = refl
owner_by t w false true c d = refl
owner_by t w false false true d = refl
owner_by t w false false false true = refl
owner_by t w false false false false = refl

value_by : (t : Texts) (w : List ℕ) (a b c d : Bool)
    → register_value t w (four a b c d (Some registers.SelfArg) (Some registers.Arg) (Some registers.Other) (Some registers.It) None)
    ≡ cond (a || b || c || d) (Ok (four a b c d operands.SelfArg operands.Arg operands.Other operands.It operands.It), t) (named_value t w)
value_by t w true b c d = refl
value_by t w false true c d = refl
value_by t w false false true d = refl
value_by t w false false false true = refl
value_by t w false false false false = refl

register_short : (w : List ℕ) → is_register w ≡ true → is_short w ≡ true
register_short w h =
    elim (cases_Bool (bytes_eq w (codes "self"))) [
      | inl e ↦ ap is_short ((bytes_eq-Decides w (codes "self")).0 e)
      | inr e ↦ elim (cases_Bool (bytes_eq w (codes "arg"))) [
        | inl e' ↦ ap is_short ((bytes_eq-Decides w (codes "arg")).0 e')
        | inr e' ↦ elim (cases_Bool (bytes_eq w (codes "other"))) [
          | inl e'' ↦ ap is_short ((bytes_eq-Decides w (codes "other")).0 e'')
          | inr e'' ↦
              let last : bytes_eq w (codes "it") ≡ true =
              sym (ap (λ x. x || bytes_eq w (codes "arg") || bytes_eq w (codes "other") || bytes_eq w (codes "it")) e ∙ ap (λ x. x || bytes_eq w (codes "other") || bytes_eq w (codes "it")) e' ∙ ap (λ x. x || bytes_eq w (codes "it")) e'') ∙ h in
              ap is_short ((bytes_eq-Decides w (codes "it")).0 last)
        ]
      ]
    ]

-- Owners

misnamed_owner : (free object : Bool) (m : Meaning) → (not free && not object) ≡ true → (not (free || false || object) || means_function m || false) ≡ true
misnamed_owner false false m h = refl
misnamed_owner true object m h = absurd cc
misnamed_owner false true m h = absurd cc

named_owner_by : (free object : Bool) (m : Meaning) → (not free && not object) ≡ false → (not (free || false || object) || means_function m || false) ≡ (means_function m || false)
named_owner_by true object m h = refl
named_owner_by false true m h = refl
named_owner_by false false m h = absurd cc

register_owner_name : (free object : Bool) → (not (free || true || object) || false || false) ≡ false
register_owner_name true object = refl
register_owner_name false object = refl

module _ (first : Texts) (begun : ℕ) where
  -- what an identifier stands for stays
  meaning_stays : (w : List ℕ) (f c : Option ℕ) (to : Texts) → place_of w first.funcs ≡ f → place_of w first.classes ≡ c → to.classes ≡ first.classes → to.funcs ≡ first.funcs → meaning_of to w ≡ meaning_by f c
  meaning_stays w f c to is_f is_c classes funcs =
      ap (λ fs. meaning_by (place_of w fs) (place_of w to.classes)) funcs ∙ ap (λ cs. meaning_by (place_of w first.funcs) (place_of w cs)) classes
      ∙ ap (λ o. meaning_by o (place_of w first.classes)) is_f ∙ ap (meaning_by f) is_c

  -- the variables of a name
  adds_by : (t : Texts) (w : List ℕ) (m : Meaning) → is_register w ≡ false → meaning_of first w ≡ m
      → record t { vars = with_texts t.vars (cond (is_register w) [] (if_variable (meaning_of first w) w) ++ []) } ≡ record t { vars = with_texts t.vars (if_variable m w ++ []) }
  adds_by t w m other is =
      ap (λ b. record t { vars = with_texts t.vars (cond b [] (if_variable (meaning_of first w) w) ++ []) }) other ∙ ap (λ x. record t { vars = with_texts t.vars (if_variable x w ++ []) }) is

  adds_none : (t : Texts) (w : List ℕ) → is_register w ≡ true → record t { vars = with_texts t.vars (cond (is_register w) [] (if_variable (meaning_of first w) w) ++ []) } ≡ t
  adds_none t w e = ap (λ b. record t { vars = with_texts t.vars (cond b [] (if_variable (meaning_of first w) w) ++ []) }) e

  abbrev owner_name : List ℕ → Bool → Meaning → Bool
  owner_name w register m = not (is_free w || register || is_object w) || means_function m || false

  owner_named : (w : List ℕ) (m : Meaning) → is_register w ≡ false → meaning_of first w ≡ m → any_name first begun (uses.owner w ∷ []) ≡ owner_name w false m
  owner_named w m other is = ap (λ b. owner_name w b (meaning_of first w)) other ∙ ap (owner_name w false) is

  target_named : (w : List ℕ) (to : Texts) (m : Meaning) → is_register w ≡ false → meaning_of to w ≡ m → target_at to w ≡ targeted_by to w m
  target_named w to m other is =
      four_none targets.SelfArg targets.Arg targets.Other targets.It (targeted_by to w (meaning_of to w)) (bytes_eq w (codes "self")) (bytes_eq w (codes "arg")) (bytes_eq w (codes "other")) (bytes_eq w (codes "it")) other
      ∙ ap (targeted_by to w) is

  owner_by_places : (w : List ℕ) (t : Texts) → t.classes ≡ first.classes → t.funcs ≡ first.funcs → Extends first t → is_register w ≡ false → (not (is_free w) && not (is_object w)) ≡ false
      → (f c : Option ℕ) → place_of w first.funcs ≡ f → place_of w first.classes ≡ c
      → IsTold first begun (uses.owner w ∷ []) (λ to. target_at to w) t (cond (is_some (option_map func_number f)) (wrong causes.Name, t) (class_owner t w (option_map class_number c)))
  owner_by_places w t classes funcs at other allowed (Some n) c is_f is_c =
      let is = meaning_stays w (Some n) c first is_f is_c refl refl in
      told_misnamed first begun (uses.owner w ∷ []) (λ to. target_at to w) t targets.It at refl
      (owner_named w (texts.function n) other is ∙ named_owner_by (is_free w) (is_object w) (texts.function n) allowed)
  owner_by_places w t classes funcs at other allowed None (Some n) is_f is_c =
      let is = meaning_stays w None (Some n) first is_f is_c refl refl in
      let fine : any_name first begun (uses.owner w ∷ []) ≡ false = owner_named w (texts.class n) other is ∙ named_owner_by (is_free w) (is_object w) (texts.class n) allowed in
      told_alone first begun (uses.owner w ∷ []) (λ to. target_at to w) t (Ok (targets.Class (class_numbered (class_number n)))) (targets.Class (class_numbered (class_number n))) at
      (adds_by t w (texts.class n) other is)
      (rw fine refl)
      (λ clean to on. target_named w to (texts.class n) other (meaning_stays w None (Some n) to is_f is_c (on.classes ∙ classes) (on.funcs ∙ funcs)) ∙ ap targets.Class (sym (class_again n)))
  owner_by_places w t classes funcs at other allowed None None is_f is_c =
      let is = meaning_stays w None None first is_f is_c refl refl in
      told_var first begun (uses.owner w ∷ []) (λ to. target_at to w) targets.Var w t at
      (refl, owner_named w texts.variable other is ∙ named_owner_by (is_free w) (is_object w) texts.variable allowed, refl, refl, refl)
      (adds_by t w texts.variable other is)
      (λ to on. target_named w to texts.variable other (meaning_stays w None None to is_f is_c (on.classes ∙ classes) (on.funcs ∙ funcs)))

  -- What a statement works on. No function is called as a register is.
  pub takes_owner : ((w : List ℕ) → is_register w ≡ true → place_of w first.funcs ≡ None) → (w : List ℕ) → Takes first begun (uses.owner w ∷ []) (λ to. target_at to w) (λ t. owner_taken t w)
  takes_owner free w =
      takes_over first begun (uses.owner w ∷ []) (λ to. target_at to w) (λ t. owner_taken t w) (λ names vars at.
      let t : Texts = record first { names = names; vars = vars } in
      let whole = owner_by t w (bytes_eq w (codes "self")) (bytes_eq w (codes "arg")) (bytes_eq w (codes "other")) (bytes_eq w (codes "it")) in
      let register : target.Target =
      four (bytes_eq w (codes "self")) (bytes_eq w (codes "arg")) (bytes_eq w (codes "other")) (bytes_eq w (codes "it")) targets.SelfArg targets.Arg targets.Other targets.It targets.It in
      elim (cases_Bool (is_register w)) [
        | inl e ↦
            let fine : any_name first begun (uses.owner w ∷ []) ≡ false =
            ap (λ b. owner_name w b (meaning_of first w)) e
            ∙ ap (λ o. owner_name w true (meaning_by o (place_of w first.classes))) (free w e)
            ∙ none_misnamed (is_free w) (is_object w) (place_of w first.classes) in
            subst (IsTold first begun (uses.owner w ∷ []) (λ to. target_at to w) t) (sym (whole ∙ ap (λ b. cond b (Ok register, t) (named_owner t w)) e))
            (told_alone first begun (uses.owner w ∷ []) (λ to. target_at to w) t (Ok register) register at (adds_none t w e) (rw fine refl)
            (λ clean to on. four_some targets.SelfArg targets.Arg targets.Other targets.It targets.It (targeted_by to w (meaning_of to w)) (bytes_eq w (codes "self")) (bytes_eq w (codes "arg")) (bytes_eq w (codes "other")) (bytes_eq w (codes "it")) e))
        | inr e ↦
            subst (IsTold first begun (uses.owner w ∷ []) (λ to. target_at to w) t) (sym (whole ∙ ap (λ b. cond b (Ok register, t) (named_owner t w)) e))
            (elim (cases_Bool (not (is_free w) && not (is_object w))) [
              | inl e' ↦
                  subst (λ b. IsTold first begun (uses.owner w ∷ []) (λ to. target_at to w) t (cond b (wrong causes.Name, t) (cond (is_some (option_map func_number (place_of w first.funcs))) (wrong causes.Name, t) (class_owner t w (option_map class_number (place_of w first.classes)))))) (sym e')
                  (told_misnamed first begun (uses.owner w ∷ []) (λ to. target_at to w) t targets.It at refl (owner_named w (meaning_of first w) e refl ∙ misnamed_owner (is_free w) (is_object w) (meaning_of first w) e'))
              | inr e' ↦
                  subst (λ b. IsTold first begun (uses.owner w ∷ []) (λ to. target_at to w) t (cond b (wrong causes.Name, t) (cond (is_some (option_map func_number (place_of w first.funcs))) (wrong causes.Name, t) (class_owner t w (option_map class_number (place_of w first.classes)))))) (sym e')
                  (owner_by_places w t refl refl at e e' (place_of w first.funcs) (place_of w first.classes) refl refl)
            ])
      ])
    where
      none_misnamed : (free object : Bool) (c : Option ℕ) → (not (free || true || object) || means_function (meaning_by None c) || false) ≡ false
      none_misnamed true object (Some n) = refl
      none_misnamed true object None = refl
      none_misnamed false object (Some n) = refl
      none_misnamed false object None = refl

  -- Values by their names

  value_named : (w : List ℕ) (to : Texts) (m : Meaning) → is_register w ≡ false → meaning_of to w ≡ m → named_at to w ≡ named_by to w m
  value_named w to m other is =
      four_none operands.SelfArg operands.Arg operands.Other operands.It (named_by to w (meaning_of to w)) (bytes_eq w (codes "self")) (bytes_eq w (codes "arg")) (bytes_eq w (codes "other")) (bytes_eq w (codes "it")) other
      ∙ ap (named_by to w) is

  value_by_places : (w : List ℕ) (t : Texts) → t.classes ≡ first.classes → t.funcs ≡ first.funcs → Extends first t → is_register w ≡ false → is_short w ≡ true
      → (f c : Option ℕ) → place_of w first.funcs ≡ f → place_of w first.classes ≡ c → place_of w t.classes ≡ c
      → IsTold first begun (uses.value w ∷ []) (λ to. named_at to w) t (numbered_value t w (option_map func_number f))
  value_by_places w t classes funcs at other short (Some n) c is_f is_c again =
      let is = meaning_stays w (Some n) c first is_f is_c refl refl in
      let fine : any_name first begun (uses.value w ∷ []) ≡ false = ap (λ b. not b || false) short in
      told_alone first begun (uses.value w ∷ []) (λ to. named_at to w) t (Ok (operands.Value (values.Func (func_numbered (func_number n))))) (operands.Value (values.Func (func_numbered (func_number n)))) at
      (adds_by t w (texts.function n) other is)
      (rw fine refl)
      (λ clean to on. value_named w to (texts.function n) other (meaning_stays w (Some n) c to is_f is_c (on.classes ∙ classes) (on.funcs ∙ funcs)) ∙ ap (λ m. operands.Value (values.Func m)) (sym (func_again n)))
  value_by_places w t classes funcs at other short None (Some n) is_f is_c again =
      let is = meaning_stays w None (Some n) first is_f is_c refl refl in
      let fine : any_name first begun (uses.value w ∷ []) ≡ false = ap (λ b. not b || false) short in
      subst (λ o. IsTold first begun (uses.value w ∷ []) (λ to. named_at to w) t (class_value t w (option_map class_number o))) (sym again)
      (told_alone first begun (uses.value w ∷ []) (λ to. named_at to w) t (Ok (operands.Value (values.Class (class_numbered (class_number n))))) (operands.Value (values.Class (class_numbered (class_number n)))) at
      (adds_by t w (texts.class n) other is)
      (rw fine refl)
      (λ clean to on. value_named w to (texts.class n) other (meaning_stays w None (Some n) to is_f is_c (on.classes ∙ classes) (on.funcs ∙ funcs)) ∙ ap (λ m. operands.Value (values.Class m)) (sym (class_again n))))
  value_by_places w t classes funcs at other short None None is_f is_c again =
      let is = meaning_stays w None None first is_f is_c refl refl in
      subst (λ o. IsTold first begun (uses.value w ∷ []) (λ to. named_at to w) t (class_value t w (option_map class_number o))) (sym again)
      (told_var first begun (uses.value w ∷ []) (λ to. named_at to w) operands.Var w t at
      (refl, ap (λ b. not b || false) short, refl, refl, refl)
      (adds_by t w texts.variable other is)
      (λ to on. value_named w to texts.variable other (meaning_stays w None None to is_f is_c (on.classes ∙ classes) (on.funcs ∙ funcs))))

  -- a value by its name
  pub takes_named : (w : List ℕ) → Takes first begun (uses.value w ∷ []) (λ to. named_at to w) (λ t. register_value t w (register_in w))
  takes_named w =
      takes_over first begun (uses.value w ∷ []) (λ to. named_at to w) (λ t. register_value t w (register_in w)) (λ names vars at.
      let t : Texts = record first { names = names; vars = vars } in
      let whole = value_by t w (bytes_eq w (codes "self")) (bytes_eq w (codes "arg")) (bytes_eq w (codes "other")) (bytes_eq w (codes "it")) in
      let register : operand.Operand =
      four (bytes_eq w (codes "self")) (bytes_eq w (codes "arg")) (bytes_eq w (codes "other")) (bytes_eq w (codes "it")) operands.SelfArg operands.Arg operands.Other operands.It operands.It in
      elim (cases_Bool (is_register w)) [
        | inl e ↦
            let fine : any_name first begun (uses.value w ∷ []) ≡ false = ap (λ b. not b || false) (register_short w e) in
            subst (IsTold first begun (uses.value w ∷ []) (λ to. named_at to w) t) (sym (whole ∙ ap (λ b. cond b (Ok register, t) (named_value t w)) e))
            (told_alone first begun (uses.value w ∷ []) (λ to. named_at to w) t (Ok register) register at (adds_none t w e) (rw fine refl)
            (λ clean to on. four_some operands.SelfArg operands.Arg operands.Other operands.It operands.It (named_by to w (meaning_of to w)) (bytes_eq w (codes "self")) (bytes_eq w (codes "arg")) (bytes_eq w (codes "other")) (bytes_eq w (codes "it")) e))
        | inr e ↦
            subst (IsTold first begun (uses.value w ∷ []) (λ to. named_at to w) t) (sym (whole ∙ ap (λ b. cond b (Ok register, t) (named_value t w)) e))
            (elim (cases_Bool (is_short w)) [
              | inl e' ↦
                  subst (λ b. IsTold first begun (uses.value w ∷ []) (λ to. named_at to w) t (cond b (numbered_value t w (option_map func_number (place_of w first.funcs))) (wrong causes.Name, t))) (sym e')
                  (value_by_places w t refl refl at e e' (place_of w first.funcs) (place_of w first.classes) refl refl refl)
              | inr e' ↦
                  subst (λ b. IsTold first begun (uses.value w ∷ []) (λ to. named_at to w) t (cond b (numbered_value t w (option_map func_number (place_of w first.funcs))) (wrong causes.Name, t))) (sym e')
                  (told_misnamed first begun (uses.value w ∷ []) (λ to. named_at to w) t operands.It at refl (ap (λ b. not b || false) e'))
            ])
      ])
