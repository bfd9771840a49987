-- The list of a class and of all that lies below it, a class after its subclasses.
use Rattle.std.specs.Prelude.{◌≡◌, ◌≢◌, ◌↔◌, ℕ, zero, suc, ◌<◌, Bool, true, false, nat_eq, if◌then◌else◌, List, [], ◌∷◌, ◌++◌, length, fold, All, AllPairs, Contains, slice_index_or}
use Rattle.std.specs.List.{list_any}
use Rattle.at_tree.specs.Tree.{children, entered, Reaches}

-- The list once the class is in it: as it is where it has the class already; else with what the direct subclasses
-- add, one after another, and then with the class. `depth` bounds how many classes lie under one another.
abbrev pub walked : ℕ → List (List ℕ) → List Bool → List ℕ → ℕ → List ℕ
walked zero tree stop list c = list
walked (suc depth) tree stop list c =
    if list_any (nat_eq c) list then list else fold (walked depth tree stop) list (entered tree stop c) ++ c ∷ []

-- the walk from a class; no more classes than there are lie under one another
abbrev pub walk_of : List (List ℕ) → List Bool → ℕ → List ℕ
walk_of tree stop c = walked (length tree) tree stop [] c

-- The list is in the order of a walk from c.
pub record IsWalk (tree : List (List ℕ)) (stop : List Bool) (c : ℕ) (list : List ℕ) : Type 0 where
  -- each is a class of the tree
  pub numbers : All (λ d. d < length tree) list
  -- no class is in the list twice
  pub once : AllPairs (λ x y. x ≢ y) list
  -- what is in the list is what is reached through no marked class
  pub reached : (d : ℕ) → Contains list d ↔ Reaches tree stop c d
  -- the direct subclasses of each class stand before it, where it isn't marked
  pub subclasses_first :
      (prefix suffix : List ℕ) (d e : ℕ) → list ≡ prefix ++ d ∷ suffix → Contains (entered tree stop d) e → Contains prefix e

-- Each class of the list stands after each other class that is reached from it through no marked class.
abbrev pub IsReachedFirst : List (List ℕ) → List Bool → List ℕ → Type 0
IsReachedFirst tree stop list =
    (prefix suffix : List ℕ) (d e : ℕ) → list ≡ prefix ++ d ∷ suffix → d ≢ e → Reaches tree stop d e → Contains prefix e

-- the marks are closed downward: the direct subclasses of a marked class are marked
abbrev pub AreClosed : List (List ℕ) → List Bool → Type 0
AreClosed tree stop =
    (c d : ℕ) → slice_index_or stop c false ≡ true → Contains (children tree c) d → slice_index_or stop d false ≡ true

-- Each class of the list stands after each other class below it that isn't marked.
abbrev pub IsUnmarkedFirst : List (List ℕ) → List Bool → List ℕ → Type 0
IsUnmarkedFirst tree stop list =
    (prefix suffix : List ℕ) (d e : ℕ) → list ≡ prefix ++ d ∷ suffix → d ≢ e → slice_index_or stop e false ≡ false
    → Reaches tree [] d e → Contains prefix e
