-- The walk as a function: no more classes lie under one another than there are, so the depth is enough.
use Rattle.std.proofs.Common.{◌≡◌, ℕ, zero, suc, ◌+◌, ◌<◌, ◌≤◌, Bool, true, false, cond, nat_eq, eqb, List, [], ◌∷◌, ◌++◌, length, fold, get_or, Contains, ⊎_elim, Decides, refl, sym, ap, ◌∙◌, subst, arith}
use Rattle.std.specs.List.{list_any, IsDistinct}
use Rattle.std.proofs.lemmas.Bool.{ne_eqb, false_from_ne_true}
use Rattle.std.proofs.lemmas.Bool.Decides.{Decides-eqb}
use Rattle.std.proofs.lemmas.List.Elements.{Contains-get_or, recursion_from_All}
use Rattle.std.proofs.lemmas.Map.Keys.{IsDistinct-cons}
use Rattle.std.proofs.lemmas.Map.Made.{is_member-Decides}
use Rattle.std.proofs.lemmas.Map.Steps.{length-le_from_distinct_below}
use Rattle.at_tree.specs.Tree.{children, entered, Reaches, IsTree}
use Rattle.at_tree.specs.Walk.{walked, walk_of}
use Rattle.at_tree.proofs.Members.{none_in, in_here, in_there, in_cons}
use Rattle.at_tree.proofs.Paths.{reach_here, reach_step, reach_trans, child_from_entered}
use Rattle.at_tree.proofs.Walks.{Walks, done, again, first}

-- whether a list has a class, as a test
pub has_is : (list : List ℕ) (c : ℕ) → Decides (list_any (nat_eq c) list) (Contains list c)
has_is list c = is_member-Decides Decides-eqb list c

-- the test holds of what is in the list
pub has_true : (list : List ℕ) (c : ℕ) → Contains list c → list_any (nat_eq c) list ≡ true
has_true list c h = (has_is list c).1 h

-- and fails of what isn't
pub has_false : (list : List ℕ) (c : ℕ) → ¬ Contains list c → list_any (nat_eq c) list ≡ false
has_false list c h = false_from_ne_true _ (λ e. h ((has_is list c).0 e))

-- the class is a direct subclass of the first of the list
abbrev pub IsNext : List (List ℕ) → ℕ → List ℕ → Type 0
IsNext tree d [] = Unit {0}
IsNext tree d (e ∷ es) = Contains (children tree e) d

-- classes of the tree, each a direct subclass of the next
abbrev pub IsTrail : List (List ℕ) → List ℕ → Type 0
IsTrail tree [] = Unit {0}
IsTrail tree (d ∷ ds) = (d < length tree) × IsNext tree d ds × IsTrail tree ds

module _ (tree : List (List ℕ)) (stop : List Bool) (t : IsTree tree) where
  -- each class of a trail reaches the first
  pub trail_reach : (d : ℕ) (ds : List ℕ) (e : ℕ) → IsTrail tree (d ∷ ds) → Contains ds e → Reaches tree [] e d
  trail_reach d [] e p h = absurd (none_in e h)
  trail_reach d (f ∷ fs) e p h =
      let last : Reaches tree [] f d = reach_step tree [] f d d p.1 (reach_here tree [] d d refl) in
      ⊎_elim (λ at. subst (λ x. Reaches tree [] x d) at last) (λ later. reach_trans tree [] e f d (trail_reach f fs e p.2 later) last) (in_cons f fs e h)

  -- no class is on a trail twice
  pub trail_new : (d : ℕ) (ds : List ℕ) → IsTrail tree (d ∷ ds) → ¬ Contains ds d
  trail_new d [] p h = none_in d h
  trail_new d (f ∷ fs) p h =
      t.acyclic f d p.1 (⊎_elim (λ at. reach_here tree [] d f (sym at)) (trail_reach f fs d p.2) (in_cons f fs d h))

  -- no two classes of a trail are the same
  trail_distinct : (ds : List ℕ) → IsTrail tree ds → IsDistinct eqb ds
  unfolding IsDistinct
  trail_distinct [] p = tt
  trail_distinct (d ∷ ds) p =
      IsDistinct-cons eqb d ds
      (recursion_from_All (λ y. eqb d y ≡ false) ds (λ k e lt. ne_eqb d (get_or ds k e) (λ at. trail_new d ds p (subst (Contains ds) (sym at) (Contains-get_or ds k e lt)))))
      (trail_distinct ds p.2)

  -- a trail has classes of the tree
  trail_in : (ds : List ℕ) → IsTrail tree ds → (d : ℕ) → Contains ds d → d < length tree
  trail_in [] p d h = absurd (none_in d h)
  trail_in (e ∷ es) p d h = ⊎_elim (λ at. subst (λ x. x < length tree) at p.0) (trail_in es p.2 d) (in_cons e es d h)

  -- a trail has no more classes than there are
  pub trail_short : (ds : List ℕ) → IsTrail tree ds → length ds ≤ length tree
  trail_short ds p = length-le_from_distinct_below ds (length tree) (trail_distinct ds p) (λ q h. trail_in ds p q ((has_is ds q).0 h))

  -- what is entered from the first of a trail makes it longer
  pub trail_more : (c : ℕ) (ds : List ℕ) → IsTrail tree (c ∷ ds) → (d : ℕ) → Contains (entered tree stop c) d → IsTrail tree (d ∷ c ∷ ds)
  trail_more c ds p d h =
      let child : Contains (children tree c) d = child_from_entered tree stop c d h in
      (t.numbers c d child, child, p)

  -- the function leaves the list where it has the class
  walked_again : (depth : ℕ) (list : List ℕ) (c : ℕ) → Contains list c → walked depth tree stop list c ≡ list
  walked_again zero list c h = refl
  walked_again (suc depth) list c h = ap (λ b. cond b list (fold (walked depth tree stop) list (entered tree stop c) ++ c ∷ [])) (has_true list c h)

  -- else it adds the class after what is entered from it
  walked_first : (depth : ℕ) (list mid : List ℕ) (c : ℕ) → ¬ Contains list c → fold (walked depth tree stop) list (entered tree stop c) ≡ mid → walked (suc depth) tree stop list c ≡ mid ++ c ∷ []
  walked_first depth list mid c h e =
      ap (λ b. cond b list (fold (walked depth tree stop) list (entered tree stop c) ++ c ∷ [])) (has_false list c h) ∙ ap (λ xs. xs ++ c ∷ []) e

  -- at a trail of open classes the relation gives what the function gives, at the depth that is left
  pub matches : (depth : ℕ) (trail list cs out : List ℕ) → length tree ≤ length trail + depth → ((d : ℕ) → Contains cs d → IsTrail tree (d ∷ trail)) → Walks tree stop list cs out → fold (walked depth tree stop) list cs ≡ out
  matches depth trail list [] out deep on done = refl
  matches depth trail list (c ∷ cs) out deep on (again seen w) =
      ap (λ xs. fold (walked depth tree stop) xs cs) (walked_again depth list c seen) ∙ matches depth trail list cs out deep (λ d h. on d (in_there c cs d h)) w
  matches zero trail list (c ∷ cs) out deep on (first {mid = mid} new v w) =
      let longer : suc (length trail) ≤ length tree = trail_short (c ∷ trail) (on c (in_here c cs)) in
      absurd (omega (arith, longer))
  matches (suc depth) trail list (c ∷ cs) out deep on (first {mid = mid} new v w) =
      ap (λ xs. fold (walked (suc depth) tree stop) xs cs)
      (walked_first depth list mid c new (matches depth (c ∷ trail) list (entered tree stop c) mid (omega (arith, deep)) (trail_more c trail (on c (in_here c cs))) v))
      ∙ matches (suc depth) trail (mid ++ c ∷ []) cs out deep (λ d h. on d (in_there c cs d h)) w

  -- the walk from one class is what the function gives
  pub walk_is : (c : ℕ) (out : List ℕ) → c < length tree → Walks tree stop [] (c ∷ []) out → out ≡ walk_of tree stop c
  walk_is c out lt w =
      sym (matches (length tree) [] [] (c ∷ []) out (omega arith) (λ d h. ⊎_elim (λ at. (subst (λ x. x < length tree) at lt, tt, tt)) (λ none. absurd (none_in d none)) (in_cons c [] d h)) w)
