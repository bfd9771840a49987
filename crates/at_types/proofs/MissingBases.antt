-- The bases that aren't among others.
use Rattle.std.proofs.Common.{◌≡◌, ◌∙◌, ap, sym, refl, ℕ, ◌+◌, ◌<◌, ◌≤◌, ◌==◌, ◌||◌, cond, not, length, length-take, get_or, take, List, [], ◌∷◌, ◌++◌, append-nil, true, false, Result, Ok, Err, OnOk, OnErr, arith}
use Rattle.std.proofs.lemmas.Bool.{or_parts, eqb-true, false≢true, false_from_ne_true}
use Rattle.std.proofs.lemmas.List.Elements.{filter_more}
use Rattle.std.proofs.lemmas.List.Sums.{length-filter, count_by-le-length}
use Rattle.at_c3.proofs.NumberLemmas.{has}
use Rattle.at_model.specs.Step.{has_repeat}
use Rattle.at_types.specs.Links.{missing_from}

missing_at : (others classes : List ℕ) (i b : ℕ) → i < length classes → b ≡ get_or classes i b
    → missing_from others (take (i + 1) classes) ≡ missing_from others (take i classes) ++ cond (not (has b others)) (b ∷ []) []
missing_at others classes i b within at =
    filter_more (λ x. not (has x others)) classes i b within
    ∙ ap (λ x. missing_from others (take i classes) ++ cond (not (has x others)) (x ∷ []) []) (sym at)

pub missing-more : (others classes : List ℕ) (i b : ℕ) → i < length classes → b ≡ get_or classes i b → has b others ≡ false
    → missing_from others (take (i + 1) classes) ≡ missing_from others (take i classes) ++ b ∷ []
missing-more others classes i b within at none =
    missing_at others classes i b within at ∙ ap (λ t. missing_from others (take i classes) ++ cond (not t) (b ∷ []) []) none

pub missing-skip : (others classes : List ℕ) (i b : ℕ) → i < length classes → b ≡ get_or classes i b → has b others ≡ true
    → missing_from others (take (i + 1) classes) ≡ missing_from others (take i classes)
missing-skip others classes i b within at there =
    missing_at others classes i b within at ∙ ap (λ t. missing_from others (take i classes) ++ cond (not t) (b ∷ []) []) there ∙ append-nil _

-- there are no more than were looked at
pub missing-few : (others classes : List ℕ) (i : ℕ) → i ≤ length classes → length (missing_from others (take i classes)) ≤ i
missing-few others classes i within =
    omega (arith, length-filter (λ x. not (has x others)) (take i classes), count_by-le-length (λ x. not (has x others)) (take i classes), length-take i classes)

-- where there is room a base is pushed
pub pushed : {T E : Type 0} (r : Result T E) (most : ℕ) (old new : List ℕ) (b : ℕ) → OnOk r ((length old < most) × (new ≡ old ++ b ∷ [])) → OnErr r ((length old ≡ most) × (new ≡ old))
    → length old < most → new ≡ old ++ b ∷ []
pushed (Ok x) most old new b ok full room = ok.1
pushed (Err e) most old new b ok full room = let is_full : length old ≡ most = full.0 in absurd (omega arith)

-- which they are
pub has-missing : (others classes : List ℕ) (b : ℕ) → has b others ≡ false → has b (missing_from others classes) ≡ has b classes
has-missing others [] b none = refl
has-missing others (x ∷ xs) b none =
    let rest = has-missing others xs b none in
    elim (x == b) as (λ t. (x == b) ≡ t → has b (cond (not (has x others)) (x ∷ missing_from others xs) (missing_from others xs)) ≡ (t || has b xs)) [
      | true ↦ λ here.
          let same : has x others ≡ false = ap (λ y. has y others) (eqb-true x b here) ∙ none in
          ap (λ t. has b (cond (not t) (x ∷ missing_from others xs) (missing_from others xs))) same ∙ ap (λ t. t || has b (missing_from others xs)) here
      | false ↦ λ other.
          elim (has x others) as (λ t. has b (cond (not t) (x ∷ missing_from others xs) (missing_from others xs)) ≡ has b xs) [
            | true ↦ rest
            | false ↦ ap (λ t. t || has b (missing_from others xs)) other ∙ rest
          ]
    ] refl

pub has-missing_none : (others classes : List ℕ) (b : ℕ) → has b others ≡ true → has b (missing_from others classes) ≡ false
has-missing_none others [] b there = refl
has-missing_none others (x ∷ xs) b there =
    let rest = has-missing_none others xs b there in
    elim (has x others) as (λ t. has x others ≡ t → has b (cond (not t) (x ∷ missing_from others xs) (missing_from others xs)) ≡ false) [
      | true ↦ λ _. rest
      | false ↦ λ none.
          let other : (x == b) ≡ false = false_from_ne_true (x == b) (λ here. false≢true (sym none ∙ ap (λ y. has y others) (eqb-true x b here) ∙ there)) in
          ap (λ t. t || has b (missing_from others xs)) other ∙ rest
    ] refl

has-missing_le : (others classes : List ℕ) (b : ℕ) → has b classes ≡ false → has b (missing_from others classes) ≡ false
has-missing_le others classes b none =
    elim (has b others) as (λ t. has b others ≡ t → has b (missing_from others classes) ≡ false) [
      | true ↦ λ there. has-missing_none others classes b there
      | false ↦ λ absent. has-missing others classes b absent ∙ none
    ] refl

-- they differ where all do
pub missing-once : (others classes : List ℕ) → has_repeat classes ≡ false → has_repeat (missing_from others classes) ≡ false
missing-once others [] once = refl
missing-once others (x ∷ xs) once =
    let both = or_parts (has x xs) (has_repeat xs) once in
    let rest = missing-once others xs both.1 in
    elim (has x others) as (λ t. has_repeat (cond (not t) (x ∷ missing_from others xs) (missing_from others xs)) ≡ false) [
      | true ↦ rest
      | false ↦ ap (λ t. t || has_repeat (missing_from others xs)) (has-missing_le others xs x both.0) ∙ rest
    ]
