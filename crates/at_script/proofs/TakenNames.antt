-- Variables, names of attributes, and texts, as they are read.
use Rattle.std.proofs.Common.{◌≡◌, ◌∙◌, ap, refl, sym, subst, ℕ, List, [], ◌∷◌, length, Bool, true, false, cond, not, ◌||◌, ltb, Option, Some, None, is_some, Result, Ok, Err, inl, inr}
use Rattle.std.specs.Option.{option_map}
use Rattle.std.specs.List.{list_any}
use Rattle.std.proofs.lemmas.Bool.{cases_Bool, le-ltb, ltb-false}
use Rattle.at_value.specs.Widths as widths
use Rattle.at_value.specs.declared.value.Value.TheVariants as values
use Rattle.at_name.specs.Texts.{place_of}
use Rattle.at_script.specs.declared.fault.Cause.TheVariants as causes
use Rattle.at_script.specs.declared.fault.LineFault.{LineFault}
use Rattle.at_script.specs.declared.fault.LineFault.TheVariants.{Wrong}
use Rattle.at_script.specs.declared.stmt.Operand.TheVariants as operands
use Rattle.at_script.specs.Limits as limits
use Rattle.at_script.specs.Meanings.{class_number, func_number}
use Rattle.at_script.specs.Words.{is_free, is_attribute_name}
use Rattle.at_script.specs.Texts.{Texts, with_text, meaning_by, number_in}
use Rattle.at_script.specs.Uses as uses
use Rattle.at_script.specs.Uses.{Use}
use Rattle.at_script.specs.Causes.{means_variable, is_one_too_many, are_too_many}
use Rattle.at_script.specs.Statements.{variable_at, name_at}
use Rattle.at_script.specs.Reading.{unless, numbered_in}
use Rattle.at_script.specs.Taking.{wrong, mapped, made_of, variable_numbered, name_numbered, bound_taken, attribute_name_taken, text_taken}
use Rattle.at_script.proofs.Outcomes.{chosen}
use Rattle.at_script.proofs.Extended.{added, Continues, Extends, extends_with_name, extends_with_var, numbered_is, number_there}
use Rattle.at_script.proofs.Takes.{Takes, takes_over, IsTold, any_number, any_name, any_class, any_func, told_misnamed, or-true}

module _ (first : Texts) (begun : ℕ) where
  -- nothing is wrong with a part but that there may be too many
  abbrev pub IsPlain : List Use → Type 0
  IsPlain us =
      (any_number first begun us ≡ false) × (any_name first begun us ≡ false) × (any_class first begun us ≡ false) × (any_func first begun us ≡ false)
      × (list_any (is_one_too_many first) us ≡ false)

  plain_chosen : {A : Type 0} (us : List Use) (limit : Bool) (x : A) → IsPlain us
      → unless (cond limit (Some causes.Limit) None) x ≡ unless (chosen (any_number first begun us) (any_name first begun us) (any_class first begun us) (any_func first begun us) limit) x
  plain_chosen us limit x (number, name, class, func, one) = rw (number, name, class, func) refl

  -- a variable is numbered
  var_by : {A : Type 0} (us : List Use) (f : Texts → A) (g : ℕ → A) (w : List ℕ) (t : Texts) → Extends first t → IsPlain us
      → added first t us ≡ record t { vars = with_text t.vars w }
      → ((to : Texts) → Continues (record t { vars = with_text t.vars w }) to → f to ≡ g (number_in to.vars w))
      → (l : Bool) → ltb limits.most_variables (length (with_text t.vars w)) ≡ l
      → (found : Result ℕ LineFault × List (List ℕ)) → found ≡ cond l (Err (Wrong causes.Limit), t.vars) (Ok (number_in (with_text t.vars w) w), with_text t.vars w)
      → IsTold first begun us f t (mapped g found.0, record t { vars = found.1 })
  var_by us f g w t at plain adds means true room found is = record {
    limit = true;
    value = g 0;
    is = ap (λ (r : Result ℕ LineFault × List (List ℕ)). mapped g r.0) is ∙ plain_chosen us true (g 0) plain;
    kept = subst (λ (r : Result ℕ LineFault × List (List ℕ)). Extends first (record t { vars = r.1 })) (sym is) at;
    clean = λ c. record {
      limited = sym (ap (λ b. b || are_too_many (added first t us)) plain.4 ∙ ap are_too_many adds ∙ ap (λ b. ltb widths.names (length t.names) || b) room ∙ or-true (ltb widths.names (length t.names)));
      texts = λ e. absurd cc;
      means = λ e to on. absurd cc;
    };
  }
  var_by us f g w t at plain adds means false room found is = record {
    limit = false;
    value = g (number_in (with_text t.vars w) w);
    is = ap (λ (r : Result ℕ LineFault × List (List ℕ)). mapped g r.0) is ∙ plain_chosen us false (g (number_in (with_text t.vars w) w)) plain;
    kept = subst (λ (r : Result ℕ LineFault × List (List ℕ)). Extends first (record t { vars = r.1 })) (sym is) (extends_with_var first t w at (ltb-false limits.most_variables (length (with_text t.vars w)) room));
    clean = λ c. record {
      limited = sym (ap (λ b. b || are_too_many (added first t us)) plain.4 ∙ ap are_too_many adds ∙ ap (λ b. b || ltb limits.most_variables (length (with_text t.vars w))) (le-ltb widths.names (length t.names) at.names) ∙ room);
      texts = λ e. ap (λ (r : Result ℕ LineFault × List (List ℕ)). record t { vars = r.1 }) is ∙ sym adds;
      means = λ e to on.
          (let after = subst (λ (r : Result ℕ LineFault × List (List ℕ)). Continues (record t { vars = r.1 }) to) is on in
          means to after ∙ ap g (after.vars w (number_there w t.vars)));
    };
  }

  pub told_var : {A : Type 0} (us : List Use) (f : Texts → A) (g : ℕ → A) (w : List ℕ) (t : Texts) → Extends first t → IsPlain us
      → added first t us ≡ record t { vars = with_text t.vars w }
      → ((to : Texts) → Continues (record t { vars = with_text t.vars w }) to → f to ≡ g (number_in to.vars w))
      → IsTold first begun us f t (made_of g (variable_numbered t w))
  told_var us f g w t at plain adds means =
      var_by us f g w t at plain adds means (ltb limits.most_variables (length (with_text t.vars w))) refl (numbered_in limits.most_variables t.vars w) (numbered_is limits.most_variables t.vars w at.vars)

  -- a name or a text is numbered
  name_by : {A : Type 0} (us : List Use) (f : Texts → A) (g : ℕ → A) (w : List ℕ) (t : Texts) → Extends first t → IsPlain us
      → added first t us ≡ record t { names = with_text t.names w }
      → ((to : Texts) → f to ≡ g (number_in to.names w))
      → (l : Bool) → ltb widths.names (length (with_text t.names w)) ≡ l
      → (found : Result ℕ LineFault × List (List ℕ)) → found ≡ cond l (Err (Wrong causes.Limit), t.names) (Ok (number_in (with_text t.names w) w), with_text t.names w)
      → IsTold first begun us f t (mapped g found.0, record t { names = found.1 })
  name_by us f g w t at plain adds means true room found is = record {
    limit = true;
    value = g 0;
    is = ap (λ (r : Result ℕ LineFault × List (List ℕ)). mapped g r.0) is ∙ plain_chosen us true (g 0) plain;
    kept = subst (λ (r : Result ℕ LineFault × List (List ℕ)). Extends first (record t { names = r.1 })) (sym is) at;
    clean = λ c. record {
      limited = sym (ap (λ b. b || are_too_many (added first t us)) plain.4 ∙ ap are_too_many adds ∙ ap (λ b. b || ltb limits.most_variables (length t.vars)) room);
      texts = λ e. absurd cc;
      means = λ e to on. absurd cc;
    };
  }
  name_by us f g w t at plain adds means false room found is = record {
    limit = false;
    value = g (number_in (with_text t.names w) w);
    is = ap (λ (r : Result ℕ LineFault × List (List ℕ)). mapped g r.0) is ∙ plain_chosen us false (g (number_in (with_text t.names w) w)) plain;
    kept = subst (λ (r : Result ℕ LineFault × List (List ℕ)). Extends first (record t { names = r.1 })) (sym is) (extends_with_name first t w at (ltb-false widths.names (length (with_text t.names w)) room));
    clean = λ c. record {
      limited = sym (ap (λ b. b || are_too_many (added first t us)) plain.4 ∙ ap are_too_many adds ∙ ap (λ b. b || ltb limits.most_variables (length t.vars)) room ∙ le-ltb limits.most_variables (length t.vars) at.vars);
      texts = λ e. ap (λ (r : Result ℕ LineFault × List (List ℕ)). record t { names = r.1 }) is ∙ sym adds;
      means = λ e to on.
          (let after = subst (λ (r : Result ℕ LineFault × List (List ℕ)). Continues (record t { names = r.1 }) to) is on in
          means to ∙ ap g (after.names w (number_there w t.names)));
    };
  }

  told_name : {A : Type 0} (us : List Use) (f : Texts → A) (g : ℕ → A) (w : List ℕ) (t : Texts) → Extends first t → IsPlain us
      → added first t us ≡ record t { names = with_text t.names w }
      → ((to : Texts) → f to ≡ g (number_in to.names w))
      → IsTold first begun us f t (made_of g (name_numbered t w))
  told_name us f g w t at plain adds means =
      name_by us f g w t at plain adds means (ltb widths.names (length (with_text t.names w))) refl (numbered_in widths.names t.names w) (numbered_is widths.names t.names w at.names)

  -- a variable that is bound
  abbrev is_bound_name : List ℕ → Bool
  is_bound_name w = not (is_free w) || is_some (option_map func_number (place_of w first.funcs)) || is_some (option_map class_number (place_of w first.classes))

  bound_name : (free : Bool) (f c : Option ℕ) → (not free || not (means_variable (meaning_by f c)) || false) ≡ (not free || is_some (option_map func_number f) || is_some (option_map class_number c))
  bound_name false f c = refl
  bound_name true (Some n) c = refl
  bound_name true None (Some n) = refl
  bound_name true None None = refl

  mapped_same : {A : Type 0} (r : Result A LineFault) → mapped (λ x. x) r ≡ r
  mapped_same (Ok x) = refl
  mapped_same (Err f) = refl

  pub takes_bound : (w : List ℕ) → Takes first begun (uses.variable w ∷ []) (λ to. variable_at to w) (λ t. bound_taken t w)
  takes_bound w =
      takes_over first begun (uses.variable w ∷ []) (λ to. variable_at to w) (λ t. bound_taken t w) (λ names vars at.
      let t : Texts = record first { names = names; vars = vars } in
      let name : any_name first begun (uses.variable w ∷ []) ≡ is_bound_name w = bound_name (is_free w) (place_of w first.funcs) (place_of w first.classes) in
      elim (cases_Bool (is_bound_name w)) [
        | inl e ↦
            subst (λ b. IsTold first begun (uses.variable w ∷ []) (λ to. variable_at to w) t (cond b (wrong causes.Name, t) (variable_numbered t w))) (sym e)
            (told_misnamed first begun (uses.variable w ∷ []) (λ to. variable_at to w) t 0 at refl (name ∙ e))
        | inr e ↦
            subst (λ b. IsTold first begun (uses.variable w ∷ []) (λ to. variable_at to w) t (cond b (wrong causes.Name, t) (variable_numbered t w))) (sym e)
            (subst (λ (r : Result ℕ LineFault). IsTold first begun (uses.variable w ∷ []) (λ to. variable_at to w) t (r, (variable_numbered t w).1)) (mapped_same (variable_numbered t w).0)
            (told_var (uses.variable w ∷ []) (λ to. variable_at to w) (λ n. n) w t at (refl, name ∙ e, refl, refl, refl) refl (λ to on. refl)))
      ])

  -- the name of an attribute
  pub takes_attribute_name : (w : List ℕ) → Takes first begun (uses.attribute w ∷ []) (λ to. name_at to w) (λ t. attribute_name_taken t w)
  takes_attribute_name w t at =
      elim (cases_Bool (is_attribute_name w)) [
        | inl e ↦
            subst (λ b. IsTold first begun (uses.attribute w ∷ []) (λ to. name_at to w) t (cond b (name_numbered t w) (wrong causes.Name, t))) (sym e)
            (subst (λ (r : Result ℕ LineFault). IsTold first begun (uses.attribute w ∷ []) (λ to. name_at to w) t (r, (name_numbered t w).1)) (mapped_same (name_numbered t w).0)
            (told_name (uses.attribute w ∷ []) (λ to. name_at to w) (λ n. n) w t at (refl, ap (λ b. not b || false) e, refl, refl, refl) refl (λ to. refl)))
        | inr e ↦
            subst (λ b. IsTold first begun (uses.attribute w ∷ []) (λ to. name_at to w) t (cond b (name_numbered t w) (wrong causes.Name, t))) (sym e)
            (told_misnamed first begun (uses.attribute w ∷ []) (λ to. name_at to w) t 0 at refl (ap (λ b. not b || false) e))
      ]

  -- a text
  pub takes_text : (w : List ℕ) → Takes first begun (uses.text w ∷ []) (λ to. operands.Value (values.Text (name_at to w))) (λ t. text_taken t w)
  takes_text w t at =
      elim (cases_Bool (is_free w)) [
        | inl e ↦
            subst (λ b. IsTold first begun (uses.text w ∷ []) (λ to. operands.Value (values.Text (name_at to w))) t (cond b (made_of (λ n. operands.Value (values.Text n)) (name_numbered t w)) (wrong causes.Name, t))) (sym e)
            (told_name (uses.text w ∷ []) (λ to. operands.Value (values.Text (name_at to w))) (λ n. operands.Value (values.Text n)) w t at (refl, ap (λ b. not b || false) e, refl, refl, refl) refl (λ to. refl))
        | inr e ↦
            subst (λ b. IsTold first begun (uses.text w ∷ []) (λ to. operands.Value (values.Text (name_at to w))) t (cond b (made_of (λ n. operands.Value (values.Text n)) (name_numbered t w)) (wrong causes.Name, t))) (sym e)
            (told_misnamed first begun (uses.text w ∷ []) (λ to. operands.Value (values.Text (name_at to w))) t operands.SelfArg at refl (ap (λ b. not b || false) e))
      ]
