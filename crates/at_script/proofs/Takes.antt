-- What is read of a part of a line, in the texts before the line and some of the line's own.
use Rattle.std.proofs.Common.{◌≡◌, ◌∙◌, ap, refl, sym, subst, ℕ, arith, List, ◌++◌, length, Bool, true, false, ◌||◌, ltb, Result, inl, inr}
use Rattle.std.specs.List.{list_any, flat_map}
use Rattle.std.proofs.lemmas.Bool.{cases_Bool, lt-ltb, le-ltb, ltb-true}
use Rattle.std.proofs.lemmas.List.Folds.{list_any-append}
use Rattle.at_value.specs.Widths as widths
use Rattle.at_script.specs.declared.fault.Cause.TheVariants as causes
use Rattle.at_script.specs.declared.fault.LineFault.{LineFault}
use Rattle.at_script.specs.Limits as limits
use Rattle.at_script.specs.Texts.{Texts}
use Rattle.at_script.specs.Uses.{Use, names_in, variables_in}
use Rattle.at_script.specs.Causes.{is_out_of_range, is_misnamed, is_no_class, is_no_function, is_one_too_many, are_too_many}
use Rattle.at_script.specs.Reading.{unless, both_of}
use Rattle.at_script.specs.Taking.{Taken, wrong, mapped, made_of, both_taken}
use Rattle.at_script.proofs.Outcomes.{chosen, both_chosen, mapped_unless}
use Rattle.at_script.proofs.Extended.{added, added_both, longer, Continues, continues_on, continues_added, Extends}

pub or-true : (a : Bool) → (a || true) ≡ true
or-true true = refl
or-true false = refl

or-none : (a : Bool) → (a || false) ≡ a
or-none true = refl
or-none false = refl

or-false : (a b : Bool) → (a || b) ≡ false → (a ≡ false) × (b ≡ false)
or-false true b h = cc
or-false false b h = (refl, h)

-- more texts than there may be stay too many with more
module _ (first : Texts) where
  too_many_stay : (t : Texts) (vs : List Use) → are_too_many t ≡ true → are_too_many (added first t vs) ≡ true
  too_many_stay t vs h =
      let vars : Bool = ltb limits.most_variables (length (added first t vs).vars) in
      elim (cases_Bool (ltb widths.names (length t.names))) [
        | inl e ↦ ap (λ b. b || vars) (lt-ltb widths.names (length (added first t vs).names) (omega (arith, ltb-true widths.names (length t.names) e, longer t.names (flat_map names_in vs))))
        | inr e ↦
            let many : ltb limits.most_variables (length t.vars) ≡ true = sym (ap (λ b. b || ltb limits.most_variables (length t.vars)) e) ∙ h in
            ap (λ b. ltb widths.names (length (added first t vs).names) || b) (lt-ltb limits.most_variables (length (added first t vs).vars) (omega (arith, ltb-true limits.most_variables (length t.vars) many, longer t.vars (flat_map (variables_in first) vs))))
            ∙ or-true (ltb widths.names (length (added first t vs).names))
      ]

-- The texts before the line, and so many functions begun.
module _ (first : Texts) (begun : ℕ) where
  abbrev pub any_number : List Use → Bool
  any_number us = list_any is_out_of_range us

  abbrev pub any_name : List Use → Bool
  any_name us = list_any (is_misnamed begun first) us

  abbrev pub any_class : List Use → Bool
  any_class us = list_any (is_no_class first) us

  abbrev pub any_func : List Use → Bool
  any_func us = list_any (is_no_function first) us

  -- nothing is wrong but that there may be too many
  pub record IsClean (us : List Use) : Type 0 where
    pub number : any_number us ≡ false
    pub name : any_name us ≡ false
    pub class : any_class us ≡ false
    pub func : any_func us ≡ false

  -- the part brings a count above its limit
  abbrev pub is_limited : Texts → List Use → Bool
  is_limited t us = list_any (is_one_too_many first) us || are_too_many (added first t us)

  -- where nothing is wrong but that there may be too many
  pub record IsToldClean {A : Type 0} (us : List Use) (f : Texts → A) (t : Texts) (found : Taken A) (limit : Bool) (value : A) : Type 0 where
    pub limited : limit ≡ is_limited t us
    pub texts : limit ≡ false → found.1 ≡ added first t us
    pub means : limit ≡ false → (to : Texts) → Continues found.1 to → f to ≡ value

  -- What is found of a part with these uses: its first cause, or its value. What the value is may be told in the last
  -- texts of the line.
  pub record IsTold {A : Type 0} (us : List Use) (f : Texts → A) (t : Texts) (found : Taken A) : Type 0 where
    pub limit : Bool
    pub value : A
    pub is : found.0 ≡ unless (chosen (any_number us) (any_name us) (any_class us) (any_func us) limit) value
    pub kept : Extends first found.1
    pub clean : IsClean us → IsToldClean us f t found limit value

  abbrev pub Takes : {A : Type 0} → List Use → (Texts → A) → (Texts → Taken A) → Type 0
  Takes us f take = (t : Texts) → Extends first t → IsTold us f t (take t)

  -- a value that is made of another
  pub takes_made : {A B : Type 0} (us : List Use) (f : Texts → A) (take : Texts → Taken A) (g : A → B) → Takes us f take → Takes us (λ to. g (f to)) (λ t. made_of g (take t))
  takes_made us f take g h t at =
      let k = h t at in
      record {
        limit = k.limit;
        value = g k.value;
        is = ap (mapped g) k.is ∙ mapped_unless g (chosen (any_number us) (any_name us) (any_class us) (any_func us) k.limit) k.value;
        kept = k.kept;
        clean = λ c. (let l = k.clean c in record { limited = l.limited; texts = l.texts; means = λ e to on. ap g (l.means e to on) });
      }

  -- the same value otherwise said
  pub takes_same : {A : Type 0} (us : List Use) (f g : Texts → A) (take : Texts → Taken A) → ((to : Texts) → g to ≡ f to) → Takes us f take → Takes us g take
  takes_same us f g take same h t at =
      let k = h t at in
      record {
        limit = k.limit;
        value = k.value;
        is = k.is;
        kept = k.kept;
        clean = λ c. (let l = k.clean c in record { limited = l.limited; texts = l.texts; means = λ e to on. same to ∙ l.means e to on });
      }

  split : (p : Use → Bool) (us vs : List Use) → list_any p (us ++ vs) ≡ false → (list_any p us ≡ false) × (list_any p vs ≡ false)
  split p us vs h = or-false (list_any p us) (list_any p vs) (sym (list_any-append p us vs) ∙ h)

  clean_first : (us vs : List Use) → IsClean (us ++ vs) → IsClean us
  clean_first us vs c = record {
    number = (split is_out_of_range us vs c.number).0;
    name = (split (is_misnamed begun first) us vs c.name).0;
    class = (split (is_no_class first) us vs c.class).0;
    func = (split (is_no_function first) us vs c.func).0;
  }

  clean_second : (us vs : List Use) → IsClean (us ++ vs) → IsClean vs
  clean_second us vs c = record {
    number = (split is_out_of_range us vs c.number).1;
    name = (split (is_misnamed begun first) us vs c.name).1;
    class = (split (is_no_class first) us vs c.class).1;
    func = (split (is_no_function first) us vs c.func).1;
  }

  joined_causes : (us vs : List Use) (limit : Bool)
      → chosen (any_number us || any_number vs) (any_name us || any_name vs) (any_class us || any_class vs) (any_func us || any_func vs) limit ≡ chosen (any_number (us ++ vs)) (any_name (us ++ vs)) (any_class (us ++ vs)) (any_func (us ++ vs)) limit
  joined_causes us vs limit =
      rw (list_any-append is_out_of_range us vs, list_any-append (is_misnamed begun first) us vs, list_any-append (is_no_class first) us vs, list_any-append (is_no_function first) us vs) refl

  -- a part with a count above its limit and then another, or the first within its limits
  limited_first : (t : Texts) (us vs : List Use) → is_limited t us ≡ true → is_limited t (us ++ vs) ≡ true
  limited_first t us vs h =
      elim (cases_Bool (list_any (is_one_too_many first) us)) [
        | inl e ↦
            let one : list_any (is_one_too_many first) (us ++ vs) ≡ true = list_any-append (is_one_too_many first) us vs ∙ ap (λ b. b || list_any (is_one_too_many first) vs) e in
            ap (λ b. b || are_too_many (added first t (us ++ vs))) one
        | inr e ↦
            let many : are_too_many (added first t us) ≡ true = sym (ap (λ b. b || are_too_many (added first t us)) e) ∙ h in
            let still : are_too_many (added first t (us ++ vs)) ≡ true = ap are_too_many (added_both first t us vs) ∙ too_many_stay first (added first t us) vs many in
            ap (λ b. list_any (is_one_too_many first) (us ++ vs) || b) still ∙ or-true (list_any (is_one_too_many first) (us ++ vs))
      ]

  limited_second : (t : Texts) (us vs : List Use) → is_limited t us ≡ false → is_limited t (us ++ vs) ≡ is_limited (added first t us) vs
  limited_second t us vs h =
      let one = (or-false (list_any (is_one_too_many first) us) (are_too_many (added first t us)) h).0 in
      ap (λ b. b || are_too_many (added first t (us ++ vs))) (list_any-append (is_one_too_many first) us vs ∙ ap (λ b. b || list_any (is_one_too_many first) vs) one)
      ∙ ap (λ u. list_any (is_one_too_many first) vs || are_too_many u) (added_both first t us vs)

  both_clean : {A B : Type 0} (us vs : List Use) (f : Texts → A) (g : Texts → B) (t : Texts) (a : Taken A) (b : Taken B) (l m : Bool) (x : A) (y : B)
      → IsToldClean us f t a l x → IsToldClean vs g a.1 b m y → IsToldClean (us ++ vs) (λ to. (f to, g to)) t (both_of a.0 b.0, b.1) (l || m) (x, y)
  both_clean us vs f g t a b true m x y h k = record {
    limited = sym (limited_first t us vs (sym h.limited));
    texts = λ e. cc;
    means = λ e to on. cc;
  }
  both_clean us vs f g t a b false m x y h k =
      let same = h.texts refl in
      record {
        limited = k.limited ∙ ap (λ u. is_limited u vs) same ∙ sym (limited_second t us vs (sym h.limited));
        texts = λ e. k.texts e ∙ ap (λ u. added first u vs) same ∙ sym (added_both first t us vs);
        means = λ e to on.
            (let step : Continues a.1 b.1 = subst (Continues a.1) (sym (k.texts e)) (continues_added first a.1 vs) in
            let one = h.means refl to (continues_on a.1 b.1 to step on) in
            let two = k.means e to on in
            rw (one, two) refl);
      }

  -- one part and then another
  pub takes_both : {A B : Type 0} (us vs : List Use) (f : Texts → A) (g : Texts → B) (take : Texts → Taken A) (next : Texts → Taken B)
      → Takes us f take → Takes vs g next → Takes (us ++ vs) (λ to. (f to, g to)) (λ t. both_taken (take t) next)
  takes_both us vs f g take next h k t at =
      let a = h t at in
      let b = k (take t).1 a.kept in
      record {
        limit = a.limit || b.limit;
        value = (a.value, b.value);
        is =
            ap (λ r. both_of r (next (take t).1).0) a.is
            ∙ ap (λ r. both_of (unless (chosen (any_number us) (any_name us) (any_class us) (any_func us) a.limit) a.value) r) b.is
            ∙ both_chosen a.value b.value (any_number us) (any_name us) (any_class us) (any_func us) a.limit (any_number vs) (any_name vs) (any_class vs) (any_func vs) b.limit
            ∙ ap (λ o. unless o (a.value, b.value)) (joined_causes us vs (a.limit || b.limit));
        kept = b.kept;
        clean = λ c. both_clean us vs f g t (take t) (next (take t).1) a.limit b.limit a.value b.value (a.clean (clean_first us vs c)) (b.clean (clean_second us vs c));
      }

  -- Parts of a line that are read alone

  -- it is enough to read a part where the classes and functions are those before the line
  pub takes_over : {A : Type 0} (us : List Use) (f : Texts → A) (take : Texts → Taken A)
      → ((names vars : List (List ℕ)) → Extends first (record first { names = names; vars = vars }) → IsTold us f (record first { names = names; vars = vars }) (take (record first { names = names; vars = vars })))
      → Takes us f take
  takes_over us f take h t at =
      let P : Texts → Type 0 = λ u. Extends first u → IsTold us f u (take u) in
      subst (λ cs. P (record { classes = cs; funcs = t.funcs; names = t.names; vars = t.vars })) (sym at.classes)
      (subst (λ fs. P (record { classes = first.classes; funcs = fs; names = t.names; vars = t.vars })) (sym at.funcs) (h t.names t.vars)) at

  pub few : (t : Texts) → Extends first t → are_too_many t ≡ false
  few t at =
      ap (λ b. b || ltb limits.most_variables (length t.vars)) (le-ltb widths.names (length t.names) at.names) ∙ le-ltb limits.most_variables (length t.vars) at.vars

  -- a part that numbers nothing
  pub told_alone : {A : Type 0} (us : List Use) (f : Texts → A) (t : Texts) (r : Result A LineFault) (x : A) → Extends first t → added first t us ≡ t
      → r ≡ unless (chosen (any_number us) (any_name us) (any_class us) (any_func us) (list_any (is_one_too_many first) us)) x
      → (IsClean us → (to : Texts) → Continues t to → f to ≡ x)
      → IsTold us f t (r, t)
  told_alone us f t r x at nothing is means = record {
    limit = list_any (is_one_too_many first) us;
    value = x;
    is = is;
    kept = at;
    clean = λ c. record {
      limited = sym (or-none (list_any (is_one_too_many first) us)) ∙ ap (λ b. list_any (is_one_too_many first) us || b) (sym (few t at) ∙ ap are_too_many (sym nothing));
      texts = λ e. sym nothing;
      means = λ e to on. means c to on;
    };
  }

  -- a part that is misnamed
  pub told_misnamed : {A : Type 0} (us : List Use) (f : Texts → A) (t : Texts) (x : A) → Extends first t → any_number us ≡ false → any_name us ≡ true → IsTold us f t (wrong causes.Name, t)
  told_misnamed us f t x at number name = record {
    limit = false;
    value = x;
    is = rw (number, name) refl;
    kept = at;
    clean = λ c. (let other = c.name in absurd cc);
  }
