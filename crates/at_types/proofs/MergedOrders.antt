-- Orders that are merged from those of the bases.
use Rattle.std.proofs.Common.{◌≡◌, ◌∙◌, ap, sym, refl, subst, ℕ, zero, suc, ◌<◌, ◌==◌, inl, inr, List, [], ◌∷◌, ◌++◌, Some, true, false, All, lit<}
use Rattle.std.specs.List.{list_any}
use Rattle.std.proofs.lemmas.Bool.{or_cases, or_left, or_right, eq-eqb, eqb-true, false≢true}
use Rattle.std.proofs.lemmas.List.Elements.{All-head, All-tail}
use Rattle.std.proofs.lemmas.List.Folds.{list_any-append}
use Rattle.at_c3.specs.Merge.{merge_of, order_of_lists}
use Rattle.at_c3.proofs.NumberLemmas.{has}
use Rattle.at_c3.proofs.RunLemmas.{run_from_merge, prefixed-some}
use Rattle.at_c3.proofs.OrderLemmas.{has-run}
use Rattle.at_value.specs.Classes.{AreClasses}
use Rattle.at_value.specs.Widths as widths

-- Numbers of classes

are_classes_from_below : (order : List ℕ) → ((d : ℕ) → has d order ≡ true → d < widths.classes) → AreClasses order
are_classes_from_below [] below i = lit< tt
are_classes_from_below (x ∷ xs) below zero = below x (or_left (x == x) (has x xs) (eq-eqb x x refl))
are_classes_from_below (x ∷ xs) below (suc i) = are_classes_from_below xs (λ d at. below d (or_right (x == d) (has d xs) at)) i

below_in : (d : ℕ) (list : List ℕ) → AreClasses list → has d list ≡ true → d < widths.classes
below_in d [] are at = absurd (false≢true at)
below_in d (x ∷ xs) are at =
    elim (or_cases (x == d) (has d xs) at) [
      | inl here ↦ subst (λ y. y < widths.classes) (eqb-true x d here) (are 0)
      | inr later ↦ below_in d xs (λ i. are (suc i)) later
    ]

below_in_some : (d : ℕ) (lists : List (List ℕ)) → All AreClasses lists → list_any (has d) lists ≡ true → d < widths.classes
below_in_some d [] all at = absurd (false≢true at)
below_in_some d (list ∷ lists) all at =
    elim (or_cases (has d list) (list_any (has d) lists) at) [
      | inl here ↦ below_in d list (All-head AreClasses list lists all) here
      | inr later ↦ below_in_some d lists (All-tail AreClasses list lists all) later
    ]

-- an order is of classes where the class, its bases and their orders are
pub merged_are_classes : (c : ℕ) (bases order : List ℕ) (lists : List (List ℕ)) → c < widths.classes → AreClasses bases → All AreClasses lists
    → order_of_lists c bases lists ≡ Some order → AreClasses order
merged_are_classes c bases order lists below are all is =
    let found = prefixed-some (c ∷ []) (merge_of (lists ++ bases ∷ [])) order is in
    let whole : order ≡ c ∷ found.0 = found.2 in
    are_classes_from_below order (λ d at.
    elim (or_cases (c == d) (has d found.0) (ap (has d) (sym whole) ∙ at)) [
      | inl here ↦ subst (λ y. y < widths.classes) (eqb-true c d here) below
      | inr later ↦
          let somewhere : list_any (has d) (lists ++ bases ∷ []) ≡ true = sym (has-run d found.0 (lists ++ bases ∷ []) (run_from_merge found.0 (lists ++ bases ∷ []) found.1)) ∙ later in
          elim (or_cases (list_any (has d) lists) (list_any (has d) (bases ∷ [])) (sym (list_any-append (has d) lists (bases ∷ [])) ∙ somewhere)) [
            | inl above ↦ below_in_some d lists all above
            | inr base ↦
                elim (or_cases (has d bases) false base) [
                  | inl there ↦ below_in d bases are there
                  | inr never ↦ absurd (false≢true never)
                ]
          ]
    ])
