-- A tree of subclasses in which a class comes below others, or leaves them.
use Rattle.std.specs.Prelude.{ℕ, ◌≡◌, false, not, List, [], ◌∷◌, ◌++◌, slice_set, filter, Contains}
use Rattle.at_tree.specs.Tree.{children, without_number}
use Rattle.at_model.specs.Step.{has_number, has_repeat}

-- the direct subclasses of each of these classes are changed
abbrev pub with_each : (List ℕ → List ℕ) → List (List ℕ) → List ℕ → List (List ℕ)
with_each change tree [] = tree
with_each change tree (b ∷ bases) = with_each change (slice_set tree b (change (children tree b))) bases

-- c is the last direct subclass of each of the bases
abbrev pub linked : List (List ℕ) → ℕ → List ℕ → List (List ℕ)
linked tree c bases = with_each (λ list. list ++ c ∷ []) tree bases

-- c is no direct subclass of any of the bases
abbrev pub unlinked : List (List ℕ) → ℕ → List ℕ → List (List ℕ)
unlinked tree c bases = with_each (λ list. without_number list c) tree bases

-- The tree was another before c was put below each of these bases.
pub record IsLinked (was : List (List ℕ)) (c : ℕ) (bases : List ℕ) (tree : List (List ℕ)) : Type 0 where
  pub is : tree ≡ linked was c bases
  pub once : has_repeat bases ≡ false
  pub absent : (b : ℕ) → Contains bases b → ¬ Contains (children was b) c

-- the classes that aren't among the others
abbrev pub missing_from : List ℕ → List ℕ → List ℕ
missing_from others classes = filter (λ b. not (has_number b others)) classes
