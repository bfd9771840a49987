-- Lemmas on what is reached in a tree.
use Rattle.std.proofs.Common.{◌≡◌, ℕ, ◌<◌, Bool, true, false, cond, List, [], ◌∷◌, length, get_or, All, Contains, ⊎_elim, sym, ap, subst}
use Rattle.std.proofs.lemmas.Bool.{cases_lt}
use Rattle.std.proofs.lemmas.List.{get_or_past}
use Rattle.at_tree.specs.Tree.{children, entered, IsPath, Reaches, IsTree}
use Rattle.at_tree.proofs.Members.{none_in}

-- a class is reached from itself
pub reach_here : (tree : List (List ℕ)) (stop : List Bool) (c d : ℕ) → c ≡ d → Reaches tree stop c d
reach_here tree stop c d e = ([], e)

-- one step further up
pub reach_step : (tree : List (List ℕ)) (stop : List Bool) (c e d : ℕ) → Contains (entered tree stop c) e → Reaches tree stop e d → Reaches tree stop c d
reach_step tree stop c e d h r = (e ∷ r.0, (h, r.1))

-- a path goes on where another ends
pub reach_along : (tree : List (List ℕ)) (stop : List Bool) (c : ℕ) (path : List ℕ) (d e : ℕ) → IsPath tree stop c path d → Reaches tree stop d e → Reaches tree stop c e
reach_along tree stop c [] d e p r = subst (λ x. Reaches tree stop x e) (sym p) r
reach_along tree stop c (f ∷ path) d e p r = reach_step tree stop c f e p.0 (reach_along tree stop f path d e p.1 r)

-- what is reached from what is reached
pub reach_trans : (tree : List (List ℕ)) (stop : List Bool) (c d e : ℕ) → Reaches tree stop c d → Reaches tree stop d e → Reaches tree stop c e
reach_trans tree stop c d e q r = reach_along tree stop c q.0 d e q.1 r

-- what is entered is a direct subclass
pub child_from_entered : (tree : List (List ℕ)) (stop : List Bool) (c e : ℕ) → Contains (entered tree stop c) e → Contains (children tree c) e
child_from_entered tree stop c e =
    elim (get_or stop c false) as (λ b. Contains (cond b [] (children tree c)) e → Contains (children tree c) e) [
      | true ↦ λ h. absurd (none_in e h)
      | false ↦ λ h. h
    ]

-- a path through no marked class is a path of the tree
pub path_unmarked : (tree : List (List ℕ)) (stop : List Bool) (c : ℕ) (path : List ℕ) (d : ℕ) → IsPath tree stop c path d → Reaches tree [] c d
path_unmarked tree stop c [] d p = ([], p)
path_unmarked tree stop c (e ∷ path) d p = reach_step tree [] c e d (child_from_entered tree stop c e p.0) (path_unmarked tree stop e path d p.1)

-- what the walk reaches lies below in the tree
pub reach_unmarked : (tree : List (List ℕ)) (stop : List Bool) (c d : ℕ) → Reaches tree stop c d → Reaches tree [] c d
reach_unmarked tree stop c d r = path_unmarked tree stop c r.0 d r.1

-- a tree with fewer pairs reaches no more
pub path_more : (small tree : List (List ℕ)) → ((c e : ℕ) → Contains (children small c) e → Contains (children tree c) e) → (c : ℕ) (path : List ℕ) (d : ℕ) → IsPath small [] c path d → Reaches tree [] c d
path_more small tree more c [] d p = ([], p)
path_more small tree more c (e ∷ path) d p = reach_step tree [] c e d (more c e p.0) (path_more small tree more e path d p.1)

-- where nothing is marked, each direct subclass is entered
entered_all : (tree : List (List ℕ)) (stop : List Bool) → All (λ marked. marked ≡ false) stop → (c : ℕ) → entered tree stop c ≡ children tree c
entered_all tree stop none c =
    ap (λ b. cond b [] (children tree c)) (⊎_elim (λ lt. none c false lt) (λ le. get_or_past stop c false le) (cases_lt c (length stop)))

-- where nothing is marked, a path of the tree is one of the walk
path_all : (tree : List (List ℕ)) (stop : List Bool) → All (λ marked. marked ≡ false) stop → (c : ℕ) (path : List ℕ) (d : ℕ) → IsPath tree [] c path d → Reaches tree stop c d
path_all tree stop none c [] d p = ([], p)
path_all tree stop none c (e ∷ path) d p =
    reach_step tree stop c e d (subst (λ list. Contains list e) (sym (entered_all tree stop none c)) p.0) (path_all tree stop none e path d p.1)

-- where nothing is marked, all is reached
pub reach_all : (tree : List (List ℕ)) (stop : List Bool) → All (λ marked. marked ≡ false) stop → (c d : ℕ) → Reaches tree [] c d → Reaches tree stop c d
reach_all tree stop none c d r = path_all tree stop none c r.0 d r.1

-- a path from a class of the tree ends in one
path_in : (tree : List (List ℕ)) (t : IsTree tree) (c : ℕ) (path : List ℕ) (d : ℕ) → c < length tree → IsPath tree [] c path d → d < length tree
path_in tree t c [] d lt p = subst (λ x. x < length tree) p lt
path_in tree t c (e ∷ path) d lt p = path_in tree t e path d (t.numbers c e p.0) p.1

-- what is reached from a class of the tree is one
pub reach_in : (tree : List (List ℕ)) (t : IsTree tree) (c d : ℕ) → c < length tree → Reaches tree [] c d → d < length tree
reach_in tree t c d lt r = path_in tree t c r.0 d lt r.1
