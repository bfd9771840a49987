-- The direct subclasses of each class, as plain lists: at a class's number the numbers of its direct
-- subclasses, in the order in which they joined (the language reference on `type.__subclasses__()`).
use Rattle.std.specs.Prelude.{◌≡◌, ◌≢◌, ℕ, ◌<◌, ◌^◌, Bool, not, ◌==◌, if◌then◌else◌, List, [], ◌∷◌, length, false, filter, AllPairs, Contains, slice_index_or}

-- the direct subclasses of a class
abbrev pub children : List (List ℕ) → ℕ → List ℕ
children tree c = slice_index_or tree c []

-- the list without a class, the others in their order
abbrev pub without_number : List ℕ → ℕ → List ℕ
without_number classes c = filter (λ d. not (d == c)) classes

-- the classes that a walk enters from one: its direct subclasses, and none where the class is marked
abbrev pub entered : List (List ℕ) → List Bool → ℕ → List ℕ
entered tree stop c = if slice_index_or stop c false then [] else children tree c

-- The path leads down from c to d: each class on it is a direct subclass of the one before, and none but the last is marked.
abbrev pub IsPath : List (List ℕ) → List Bool → ℕ → List ℕ → ℕ → Type 0
IsPath tree stop c [] d = c ≡ d
IsPath tree stop c (e ∷ path) d = Contains (entered tree stop c) e × IsPath tree stop e path d

-- d is c, or is reached from c through none of the marked classes; with [] none is marked
abbrev pub Reaches : List (List ℕ) → List Bool → ℕ → ℕ → Type 0
Reaches tree stop c d = (path : List ℕ) × IsPath tree stop c path d

-- What is true of every tree.
pub record IsTree (tree : List (List ℕ)) : Type 0 where
  pub small : length tree < 2 ^ 16
  -- a direct subclass is a class of the tree
  pub numbers : (c d : ℕ) → Contains (children tree c) d → d < length tree
  -- no class has a direct subclass twice
  pub once : (c : ℕ) → AllPairs (λ x y. x ≢ y) (children tree c)
  -- no class lies below itself
  pub acyclic : (c d : ℕ) → Contains (children tree c) d → ¬ Reaches tree [] d c
