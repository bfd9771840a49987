-- Texts with those of a line, one after another.
use Rattle.std.proofs.Common.{◌≡◌, ◌∙◌, ap, refl, sym, ℕ, ◌+◌, ◌<◌, ◌≤◌, arith, List, [], ◌∷◌, ◌++◌, length, true, false, cond, ltb, Option, Some, None, is_some, bytes_eq, Ok, Err, inl, inr, length-append}
use Rattle.std.specs.List.{flat_map}
use Rattle.std.proofs.lemmas.Bool.{cases_Bool, lt-ltb, le-ltb, ltb-true, ltb-false}
use Rattle.std.proofs.lemmas.List.Concat.{flat_map-append}
use Rattle.std.proofs.lemmas.Option.{cond_some}
use Rattle.std.proofs.lemmas.Slice.Eq.{bytes_eq-Decides}
use Rattle.at_value.specs.Widths as widths
use Rattle.at_name.specs.Texts.{place_of}
use Rattle.at_script.specs.declared.fault.Cause.TheVariants as causes
use Rattle.at_script.specs.declared.fault.LineFault.TheVariants.{Wrong}
use Rattle.at_script.specs.Limits as limits
use Rattle.at_script.specs.Texts.{Texts, with_text, with_texts, number_in}
use Rattle.at_script.specs.Uses.{Use, names_in, variables_in}
use Rattle.at_script.specs.Reading.{is_below, found_or_added, numbered_in}
use Rattle.at_script.proofs.Numbered.{number_stays, place_of-other, place_of-added, place_of-push, apart}

-- a text that was found is known by its number
pub found_number : (w : List ℕ) (texts : List (List ℕ)) (n : ℕ) → place_of w texts ≡ Some n → (number_in texts w < length texts) × (number_in texts w ≡ n)
found_number w texts n h =
    let k = cond_some (ltb (number_in texts w) (length texts)) (number_in texts w) n h in
    (ltb-true _ _ k.0, k.1)

-- One more text

-- a text that is added stands there
pub number_there : (w : List ℕ) (texts : List (List ℕ)) → number_in (with_text texts w) w < length (with_text texts w)
number_there w texts = by_place (place_of w texts) refl
  where
    by_place : (o : Option ℕ) → place_of w texts ≡ o → number_in (cond (is_some o) texts (texts ++ w ∷ [])) w < length (cond (is_some o) texts (texts ++ w ∷ []))
    by_place (Some n) h = (found_number w texts n h).0
    by_place None h = (found_number w (texts ++ w ∷ []) (length texts) (place_of-push w texts h)).0

numbered_by : (most : ℕ) (texts : List (List ℕ)) (w : List ℕ) → length texts ≤ most → (o : Option ℕ) → place_of w texts ≡ o
    → found_or_added most w texts o ≡ cond (ltb most (length (cond (is_some o) texts (texts ++ w ∷ [])))) (Err (Wrong causes.Limit), texts) (Ok (number_in (cond (is_some o) texts (texts ++ w ∷ [])) w), cond (is_some o) texts (texts ++ w ∷ []))
numbered_by most texts w few (Some n) h = rw (le-ltb most (length texts) few, (found_number w texts n h).1) refl
numbered_by most texts w few None h =
    let at = (found_number w (texts ++ w ∷ []) (length texts) (place_of-push w texts h)).1 in
    let long : length (texts ++ w ∷ []) ≡ length texts + 1 = length-append texts (w ∷ []) in
    elim (cases_Bool (ltb (length texts) most)) [
      | inl e ↦ (let lt = ltb-true _ _ e in rw (e, le-ltb most (length (texts ++ w ∷ [])) (omega arith), at) refl)
      | inr e ↦ (let ge = ltb-false (length texts) most e in rw (e, lt-ltb most (length (texts ++ w ∷ [])) (omega arith)) refl)
    ]

-- a text is numbered where there is room for it
pub numbered_is : (most : ℕ) (texts : List (List ℕ)) (w : List ℕ) → length texts ≤ most
    → numbered_in most texts w ≡ cond (ltb most (length (with_text texts w))) (Err (Wrong causes.Limit), texts) (Ok (number_in (with_text texts w) w), with_text texts w)
numbered_is most texts w few = numbered_by most texts w few (place_of w texts) refl

-- one more text hides no earlier one
earlier_by : (old texts : List (List ℕ)) (w v : List ℕ) → ((v : List ℕ) → is_below (length old) (place_of v texts) ≡ is_some (place_of v old)) → length old ≤ length texts
    → (o : Option ℕ) → place_of w texts ≡ o → is_below (length old) (place_of v (cond (is_some o) texts (texts ++ w ∷ []))) ≡ is_some (place_of v old)
earlier_by old texts w v agrees more (Some n) h = agrees v
earlier_by old texts w v agrees more None h =
    elim (cases_Bool (bytes_eq w v)) [
      | inl e ↦
          let same : place_of v texts ≡ None = ap (λ u. place_of u texts) (sym ((bytes_eq-Decides w v).0 e)) ∙ h in
          ap (is_below (length old)) (place_of-added v w texts e h) ∙ le-ltb (length texts) (length old) more ∙ sym (ap (is_below (length old)) same) ∙ agrees v
      | inr e ↦ ap (is_below (length old)) (place_of-other v w texts (apart v w e)) ∙ agrees v
    ]

-- All texts of a line

-- the texts with those of a line, where the first tell what each identifier stands for
abbrev pub added : Texts → Texts → List Use → Texts
added first t uses = record t {
  names = with_texts t.names (flat_map names_in uses);
  vars = with_texts t.vars (flat_map (variables_in first) uses);
}

with_both : (texts xs ys : List (List ℕ)) → with_texts texts (xs ++ ys) ≡ with_texts (with_texts texts xs) ys
with_both texts [] ys = refl
with_both texts (x ∷ xs) ys = with_both (with_text texts x) xs ys

-- the texts of two parts of a line
pub added_both : (first t : Texts) (us vs : List Use) → added first t (us ++ vs) ≡ added first (added first t us) vs
added_both first t us vs =
    ap (λ xs. record t { names = with_texts t.names xs; vars = with_texts t.vars (flat_map (variables_in first) (us ++ vs)) }) (flat_map-append names_in us vs)
    ∙ ap (λ xs. record t { names = with_texts t.names (flat_map names_in us ++ flat_map names_in vs); vars = with_texts t.vars xs }) (flat_map-append (variables_in first) us vs)
    ∙ ap (λ xs. record t { names = xs; vars = with_texts t.vars (flat_map (variables_in first) us ++ flat_map (variables_in first) vs) }) (with_both t.names (flat_map names_in us) (flat_map names_in vs))
    ∙ ap (λ xs. record t { names = with_texts (with_texts t.names (flat_map names_in us)) (flat_map names_in vs); vars = xs }) (with_both t.vars (flat_map (variables_in first) us) (flat_map (variables_in first) vs))

one_longer : (texts : List (List ℕ)) (w : List ℕ) → length texts ≤ length (with_text texts w)
one_longer texts w = elim (is_some (place_of w texts)) as (λ b. length texts ≤ length (cond b texts (texts ++ w ∷ []))) [
  | true ↦ omega arith
  | false ↦ omega (arith, length-append texts (w ∷ []))
]

-- there are no fewer texts with more
pub longer : (texts more : List (List ℕ)) → length texts ≤ length (with_texts texts more)
longer texts [] = omega arith
longer texts (w ∷ more) = omega (arith, one_longer texts w, longer (with_text texts w) more)

-- Texts that go on from others: what those number has its number there.
pub record Continues (from to : Texts) : Type 0 where
  pub classes : to.classes ≡ from.classes
  pub funcs : to.funcs ≡ from.funcs
  pub more_names : length from.names ≤ length to.names
  pub more_vars : length from.vars ≤ length to.vars
  pub names : (w : List ℕ) → number_in from.names w < length from.names → number_in to.names w ≡ number_in from.names w
  pub vars : (w : List ℕ) → number_in from.vars w < length from.vars → number_in to.vars w ≡ number_in from.vars w

pub continues_itself : (t : Texts) → Continues t t
continues_itself t = record { classes = refl; funcs = refl; more_names = omega arith; more_vars = omega arith; names = λ w h. refl; vars = λ w h. refl }

pub continues_on : (t u v : Texts) → Continues t u → Continues u v → Continues t v
continues_on t u v a b =
    let names = a.more_names in
    let vars = a.more_vars in
    let names' = b.more_names in
    let vars' = b.more_vars in
    record {
      classes = b.classes ∙ a.classes;
      funcs = b.funcs ∙ a.funcs;
      more_names = omega arith;
      more_vars = omega arith;
      names = λ w h. (let e = a.names w h in b.names w (omega arith) ∙ e);
      vars = λ w h. (let e = a.vars w h in b.vars w (omega arith) ∙ e);
    }

-- texts with more go on from what they were
pub continues_added : (first t : Texts) (uses : List Use) → Continues t (added first t uses)
continues_added first t uses = record {
  classes = refl;
  funcs = refl;
  more_names = longer t.names (flat_map names_in uses);
  more_vars = longer t.vars (flat_map (variables_in first) uses);
  names = λ w h. number_stays w t.names (flat_map names_in uses) h;
  vars = λ w h. number_stays w t.vars (flat_map (variables_in first) uses) h;
}

-- Texts in the middle of a line: those before it with some of its own, no more than there may be.
pub record Extends (first t : Texts) : Type 0 where
  pub classes : t.classes ≡ first.classes
  pub funcs : t.funcs ≡ first.funcs
  pub earlier : (w : List ℕ) → is_below (length first.vars) (place_of w t.vars) ≡ is_some (place_of w first.vars)
  pub more : length first.vars ≤ length t.vars
  pub names : length t.names ≤ widths.names
  pub vars : length t.vars ≤ limits.most_variables

below_itself : (texts : List (List ℕ)) (w : List ℕ) (o : Option ℕ) → place_of w texts ≡ o → is_below (length texts) o ≡ is_some o
below_itself texts w None h = refl
below_itself texts w (Some n) h = (let k = found_number w texts n h in lt-ltb n (length texts) (let low = k.0 in let is = k.1 in omega arith))

pub extends_itself : (t : Texts) → length t.names ≤ widths.names → length t.vars ≤ limits.most_variables → Extends t t
extends_itself t names vars = record { classes = refl; funcs = refl; earlier = λ w. below_itself t.vars w (place_of w t.vars) refl; more = omega arith; names = names; vars = vars }

pub extends_with_name : (first t : Texts) (w : List ℕ) → Extends first t → length (with_text t.names w) ≤ widths.names → Extends first (record t { names = with_text t.names w })
extends_with_name first t w h room = record { classes = h.classes; funcs = h.funcs; earlier = h.earlier; more = h.more; names = room; vars = h.vars }

pub extends_with_var : (first t : Texts) (w : List ℕ) → Extends first t → length (with_text t.vars w) ≤ limits.most_variables → Extends first (record t { vars = with_text t.vars w })
extends_with_var first t w h room =
    let more = h.more in
    record {
      classes = h.classes;
      funcs = h.funcs;
      earlier = λ v. earlier_by first.vars t.vars w v h.earlier h.more (place_of w t.vars) refl;
      more = omega (arith, one_longer t.vars w);
      names = h.names;
      vars = room;
    }
