-- The direct subclasses of classes, as a class comes below some of them or leaves them.
use Rattle.std.proofs.Common.{◌≡◌, ◌≢◌, ◌∙◌, ap, sym, refl, subst, ℕ, zero, suc, ◌+◌, ◌-◌, ◌<◌, ◌==◌, ◌||◌, inl, inr, cond, not, length, get_or, set, take, List, [], ◌∷◌, ◌++◌, true, false, Bool, Contains, arith}
use Rattle.std.proofs.lemmas.Bool.{or_cases, or_left, or_right, or_parts, eq-eqb, eqb-true, eqb-false, ne_eqb, false≢true, false_from_ne_true}
use Rattle.std.proofs.lemmas.List.{get_or-set_same, get_or-set_other, length-set, set-set, set-get_or, take_more}
use Rattle.at_c3.proofs.NumberLemmas.{has, Contains-from_has, has-from_Contains}
use Rattle.at_tree.specs.Tree.{children, without_number}
use Rattle.at_tree.proofs.Members.{in_middle}
use Rattle.at_model.specs.Step.{has_repeat}
use Rattle.at_types.specs.Links.{with_each, linked, unlinked, IsLinked}

module _ (f : List ℕ → List ℕ) where
  pub with_each_push : (tree : List (List ℕ)) (bases : List ℕ) (b : ℕ)
      → with_each f tree (bases ++ b ∷ []) ≡ set (with_each f tree bases) b (f (children (with_each f tree bases) b))
  with_each_push tree [] b = refl
  with_each_push tree (x ∷ bases) b = with_each_push (set tree x (f (children tree x))) bases b

  pub length-with_each : (tree : List (List ℕ)) (bases : List ℕ) → length (with_each f tree bases) ≡ length tree
  length-with_each tree [] = refl
  length-with_each tree (x ∷ bases) = length-with_each (set tree x (f (children tree x))) bases ∙ length-set tree x (f (children tree x))

  -- those of a class that is none of them stay
  pub children-with_each_other : (tree : List (List ℕ)) (bases : List ℕ) (b : ℕ) → has b bases ≡ false → children (with_each f tree bases) b ≡ children tree b
  children-with_each_other tree [] b none = refl
  children-with_each_other tree (x ∷ bases) b none =
      let both = or_parts (x == b) (has b bases) none in
      children-with_each_other (set tree x (f (children tree x))) bases b both.1
      ∙ get_or-set_other tree x b (f (children tree x)) [] (λ e. eqb-false x b both.0 (sym e))

  -- those of each of them change once
  pub children-with_each_here : (tree : List (List ℕ)) (bases : List ℕ) (b : ℕ) → b < length tree → has_repeat bases ≡ false → has b bases ≡ true
      → children (with_each f tree bases) b ≡ f (children tree b)
  children-with_each_here tree [] b below once at = absurd (false≢true at)
  children-with_each_here tree (x ∷ bases) b below once at =
      let both = or_parts (has x bases) (has_repeat bases) once in
      let next : List (List ℕ) = set tree x (f (children tree x)) in
      elim (x == b) as (λ t. (x == b) ≡ t → children (with_each f next bases) b ≡ f (children tree b)) [
        | true ↦ λ here.
            let same : x ≡ b = eqb-true x b here in
            children-with_each_other next bases b (ap (λ y. has y bases) (sym same) ∙ both.0)
            ∙ ap (λ y. children (set tree y (f (children tree y))) b) same
            ∙ get_or-set_same tree b (f (children tree b)) [] below
        | false ↦ λ other.
            let later : has b bases ≡ true = sym (ap (λ t. t || has b bases) other) ∙ at in
            let size : length next ≡ length tree = length-set tree x (f (children tree x)) in
            children-with_each_here next bases b (omega arith) both.1 later
            ∙ ap f (get_or-set_other tree x b (f (children tree x)) [] (λ e. eqb-false x b other (sym e)))
      ] refl

  -- one of them more
  pub with_each_more : (tree now next : List (List ℕ)) (bases : List ℕ) (i b : ℕ) → i < length bases → b ≡ get_or bases i b → now ≡ with_each f tree (take i bases)
      → next ≡ set now b (f (children now b)) → next ≡ with_each f tree (take (i + 1) bases)
  with_each_more tree now next bases i b within at is changed =
      let step : List (List ℕ) → List (List ℕ) = λ t. set t b (f (children t b)) in
      changed ∙ ap step is ∙ sym (with_each_push tree (take i bases) b)
      ∙ ap (λ x. with_each f tree (take i bases ++ x ∷ [])) at ∙ ap (with_each f tree) (sym (take_more bases i b within))

-- Bases that differ

has_at : (xs : List ℕ) (i b : ℕ) → i < length xs → b ≡ get_or xs i b → has b xs ≡ true
has_at xs i b within at = has-from_Contains b xs (i, within, sym at)

pub contains_at : (xs : List ℕ) (i b : ℕ) → i < length xs → b ≡ get_or xs i b → Contains xs b
contains_at xs i b within at = (i, within, sym at)

pub has_take : (b i : ℕ) (xs : List ℕ) → has b (take i xs) ≡ true → has b xs ≡ true
has_take b zero xs at = absurd (false≢true at)
has_take b (suc i) [] at = absurd (false≢true at)
has_take b (suc i) (x ∷ xs) at =
    elim (or_cases (x == b) (has b (take i xs)) at) [
      | inl here ↦ or_left (x == b) (has b xs) here
      | inr later ↦ or_right (x == b) (has b xs) (has_take b i xs later)
    ]

has_none_take : (b i : ℕ) (xs : List ℕ) → has b xs ≡ false → has b (take i xs) ≡ false
has_none_take b i xs none = false_from_ne_true (has b (take i xs)) (λ at. false≢true (sym none ∙ has_take b i xs at))

-- a base isn't among those before it
pub not_before : (xs : List ℕ) (i b : ℕ) → i < length xs → b ≡ get_or xs i b → has_repeat xs ≡ false → has b (take i xs) ≡ false
not_before [] i b within at once = absurd (omega arith)
not_before (x ∷ xs) zero b within at once = refl
not_before (x ∷ xs) (suc i) b within at once =
    let both = or_parts (has x xs) (has_repeat xs) once in
    let there : has b xs ≡ true = has_at xs i b (omega arith) at in
    let other : (x == b) ≡ false = false_from_ne_true (x == b) (λ here. false≢true (sym both.0 ∙ ap (λ y. has y xs) (eqb-true x b here) ∙ there)) in
    ap (λ t. t || has b (take i xs)) other ∙ not_before xs i b (omega arith) at both.1

pub no_repeat_take : (xs : List ℕ) (i : ℕ) → has_repeat xs ≡ false → has_repeat (take i xs) ≡ false
no_repeat_take xs zero once = refl
no_repeat_take [] (suc i) once = refl
no_repeat_take (x ∷ xs) (suc i) once =
    let both = or_parts (has x xs) (has_repeat xs) once in
    ap (λ t. t || has_repeat (take i xs)) (has_none_take x i xs both.0) ∙ no_repeat_take xs i both.1

-- One class below others

-- a base of which it isn't a subclass yet
pub absent_at : (tree : List (List ℕ)) (c : ℕ) (bases : List ℕ) (i b : ℕ) → i < length bases → b ≡ get_or bases i b → has_repeat bases ≡ false
    → ¬ Contains (children tree b) c → ¬ Contains (children (linked tree c (take i bases)) b) c
absent_at tree c bases i b within at once absent there =
    absent (subst (λ list. Contains list c) (children-with_each_other (λ list. list ++ c ∷ []) tree (take i bases) b (not_before bases i b within at once)) there)

-- a base of which it is still a subclass
pub present_at : (tree : List (List ℕ)) (c : ℕ) (bases : List ℕ) (i b : ℕ) → i < length bases → b ≡ get_or bases i b → has_repeat bases ≡ false
    → Contains (children tree b) c → Contains (children (unlinked tree c (take i bases)) b) c
present_at tree c bases i b within at once present =
    subst (λ list. Contains list c) (sym (children-with_each_other (λ list. without_number list c) tree (take i bases) b (not_before bases i b within at once))) present

without_push : (list : List ℕ) (c : ℕ) → has c list ≡ false → without_number (list ++ c ∷ []) c ≡ list
without_push [] c none = ap (λ t. cond (not t) (c ∷ []) []) (eq-eqb c c refl)
without_push (x ∷ xs) c none =
    let both = or_parts (x == c) (has c xs) none in
    ap (λ t. cond (not t) (x ∷ without_number (xs ++ c ∷ []) c) (without_number (xs ++ c ∷ []) c)) both.0 ∙ ap (λ list. x ∷ list) (without_push xs c both.1)

-- the last base of which it became a subclass
last_linked : (was : List (List ℕ)) (c : ℕ) (bases : List ℕ) (i b : ℕ) → i < length bases → b ≡ get_or bases i b
    → linked was c (take (i + 1) bases) ≡ set (linked was c (take i bases)) b (children (linked was c (take i bases)) b ++ c ∷ [])
last_linked was c bases i b within at =
    ap (linked was c) (take_more bases i b within) ∙ ap (λ x. linked was c (take i bases ++ x ∷ [])) (sym at) ∙ with_each_push (λ list. list ++ c ∷ []) was (take i bases) b

pub last_present : (was tree : List (List ℕ)) (c : ℕ) (bases : List ℕ) (i b : ℕ) → i < length bases → b ≡ get_or bases i b → b < length was
    → tree ≡ linked was c (take (i + 1) bases) → Contains (children tree b) c
last_present was tree c bases i b within at below is =
    let before : List (List ℕ) = linked was c (take i bases) in
    let size : length before ≡ length was = length-with_each (λ list. list ++ c ∷ []) was (take i bases) in
    let list : children tree b ≡ children before b ++ c ∷ [] =
    ap (λ t. children t b) (is ∙ last_linked was c bases i b within at) ∙ get_or-set_same before b (children before b ++ c ∷ []) [] (omega arith) in
    subst (λ l. Contains l c) (sym list) (in_middle (children before b) c [])

pub last_unlinked : (was tree now : List (List ℕ)) (c : ℕ) (bases : List ℕ) (i b : ℕ) → i < length bases → b ≡ get_or bases i b → b < length was
    → has_repeat bases ≡ false → ¬ Contains (children was b) c → tree ≡ linked was c (take (i + 1) bases) → now ≡ set tree b (without_number (children tree b) c)
    → now ≡ linked was c (take i bases)
last_unlinked was tree now c bases i b within at below once absent is changed =
    let before : List (List ℕ) = linked was c (take i bases) in
    let old : List ℕ = children before b in
    let size : length before ≡ length was = length-with_each (λ list. list ++ c ∷ []) was (take i bases) in
    let whole : tree ≡ set before b (old ++ c ∷ []) = is ∙ last_linked was c bases i b within at in
    let list : children tree b ≡ old ++ c ∷ [] = ap (λ t. children t b) whole ∙ get_or-set_same before b (old ++ c ∷ []) [] (omega arith) in
    let same : old ≡ children was b = children-with_each_other (λ l. l ++ c ∷ []) was (take i bases) b (not_before bases i b within at once) in
    let none : has c old ≡ false = false_from_ne_true (has c old) (λ there. absent (subst (λ l. Contains l c) same (Contains-from_has c old there))) in
    changed ∙ ap (λ l. set tree b (without_number l c)) list ∙ ap (set tree b) (without_push old c none)
    ∙ ap (λ t. set t b old) whole ∙ set-set before b (old ++ c ∷ []) old ∙ set-get_or before b []

-- the tree was as long before c was put below bases
pub length-linked : (was tree : List (List ℕ)) (c : ℕ) (bases : List ℕ) → IsLinked was c bases tree → length was ≡ length tree
length-linked was tree c bases is = sym (ap length is.is ∙ length-with_each (λ list. list ++ c ∷ []) was bases)

pub length-linked_take : (was tree : List (List ℕ)) (c n : ℕ) (bases : List ℕ) → tree ≡ linked was c (take n bases) → length tree ≡ length was
length-linked_take was tree c n bases is = ap length is ∙ length-with_each (λ list. list ++ c ∷ []) was (take n bases)

-- a number of bases, as one more than the number before
pub one_back : (was tree : List (List ℕ)) (c left : ℕ) (bases : List ℕ) → 0 < left → tree ≡ linked was c (take left bases)
    → tree ≡ linked was c (take (left - 1 + 1) bases)
one_back was tree c left bases some is = let same : left ≡ left - 1 + 1 = omega arith in is ∙ ap (λ n. linked was c (take n bases)) same

-- the bases before one can be left again
pub linked_before : (was tree : List (List ℕ)) (c i : ℕ) (bases : List ℕ) → tree ≡ linked was c (take i bases) → has_repeat bases ≡ false
    → ((b : ℕ) → Contains bases b → ¬ Contains (children was b) c) → IsLinked was c (take i bases) tree
linked_before was tree c i bases is once absent = record {
  is = is;
  once = no_repeat_take bases i once;
  absent = λ b at. absent b (Contains-from_has b bases (has_take b i bases (has-from_Contains b (take i bases) at)));
}

-- Which classes are direct subclasses then

or_assoc : (a b c : Bool) → ((a || b) || c) ≡ (a || (b || c))
or_assoc true b c = refl
or_assoc false b c = refl

or_false : (a : Bool) → (a || false) ≡ a
or_false true = refl
or_false false = refl

has_push : (list : List ℕ) (c d : ℕ) → has d (list ++ c ∷ []) ≡ (has d list || (c == d))
has_push [] c d = or_false (c == d)
has_push (x ∷ xs) c d = ap (λ t. (x == d) || t) (has_push xs c d) ∙ sym (or_assoc (x == d) (has d xs) (c == d))

has_without : (list : List ℕ) (c d : ℕ) → c ≢ d → has d (without_number list c) ≡ has d list
has_without [] c d other = refl
has_without (x ∷ xs) c d other =
    let rest = has_without xs c d other in
    elim (x == c) as (λ t. (x == c) ≡ t → has d (cond (not t) (x ∷ without_number xs c) (without_number xs c)) ≡ ((x == d) || has d xs)) [
      | true ↦ λ here.
          let differs : (x == d) ≡ false = ne_eqb x d (λ e. other (sym (eqb-true x c here) ∙ e)) in
          rest ∙ sym (ap (λ t. t || has d xs) differs)
      | false ↦ λ _. ap (λ t. (x == d) || t) rest
    ] refl

has_gone : (list : List ℕ) (c : ℕ) → has c (without_number list c) ≡ false
has_gone [] c = refl
has_gone (x ∷ xs) c =
    elim (x == c) as (λ t. (x == c) ≡ t → has c (cond (not t) (x ∷ without_number xs c) (without_number xs c)) ≡ false) [
      | true ↦ λ _. has_gone xs c
      | false ↦ λ other. ap (λ t. t || has c (without_number xs c)) other ∙ has_gone xs c
    ] refl

module _ (tree : List (List ℕ)) (c : ℕ) (bases : List ℕ) (once : has_repeat bases ≡ false) (within : (b : ℕ) → has b bases ≡ true → b < length tree) where
  pub linked-others : (b d : ℕ) → c ≢ d → has d (children (linked tree c bases) b) ≡ has d (children tree b)
  linked-others b d other =
      elim (has b bases) as (λ t. has b bases ≡ t → has d (children (linked tree c bases) b) ≡ has d (children tree b)) [
        | true ↦ λ at.
            ap (has d) (children-with_each_here (λ list. list ++ c ∷ []) tree bases b (within b at) once at) ∙ has_push (children tree b) c d
            ∙ ap (λ t. has d (children tree b) || t) (ne_eqb c d other) ∙ or_false (has d (children tree b))
        | false ↦ λ none. ap (has d) (children-with_each_other (λ list. list ++ c ∷ []) tree bases b none)
      ] refl

  pub linked-here : (b : ℕ) → has b bases ≡ true → has c (children (linked tree c bases) b) ≡ true
  linked-here b at =
      ap (has c) (children-with_each_here (λ list. list ++ c ∷ []) tree bases b (within b at) once at) ∙ has_push (children tree b) c c
      ∙ or_right (has c (children tree b)) (c == c) (eq-eqb c c refl)

  pub linked-elsewhere : (b : ℕ) → has b bases ≡ false → has c (children (linked tree c bases) b) ≡ has c (children tree b)
  linked-elsewhere b none = ap (has c) (children-with_each_other (λ list. list ++ c ∷ []) tree bases b none)

  pub unlinked-others : (b d : ℕ) → c ≢ d → has d (children (unlinked tree c bases) b) ≡ has d (children tree b)
  unlinked-others b d other =
      elim (has b bases) as (λ t. has b bases ≡ t → has d (children (unlinked tree c bases) b) ≡ has d (children tree b)) [
        | true ↦ λ at.
            ap (has d) (children-with_each_here (λ list. without_number list c) tree bases b (within b at) once at) ∙ has_without (children tree b) c d other
        | false ↦ λ none. ap (has d) (children-with_each_other (λ list. without_number list c) tree bases b none)
      ] refl

  pub unlinked-here : (b : ℕ) → has b bases ≡ true → has c (children (unlinked tree c bases) b) ≡ false
  unlinked-here b at = ap (has c) (children-with_each_here (λ list. without_number list c) tree bases b (within b at) once at) ∙ has_gone (children tree b) c

  pub unlinked-elsewhere : (b : ℕ) → has b bases ≡ false → has c (children (unlinked tree c bases) b) ≡ has c (children tree b)
  unlinked-elsewhere b none = ap (has c) (children-with_each_other (λ list. without_number list c) tree bases b none)
