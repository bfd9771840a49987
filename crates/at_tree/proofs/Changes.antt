-- What `add` and `remove` leave of a tree, and what a tree without pairs has.
use Rattle.std.proofs.Common.{◌≡◌, ◌≢◌, ◌↔◌, ℕ, ◌<◌, ◌^◌, Bool, not, eqb, List, [], ◌∷◌, ◌++◌, length, get_or, set, map, filter, replicate, AllPairs, Contains, ◌⊎◌, inl, inr, refl, ⊎_elim, sym, ap, ◌∙◌, subst, arith}
use Rattle.std.proofs.lemmas.Bool.{cases_eq, cases_lt}
use Rattle.std.proofs.lemmas.List.{get_or-set_same, get_or-set_other, length-set, map-set, get_or-map, set-get_or, get_or-replicate, length-replicate, get_or_past, length-map}
use Rattle.std.proofs.lemmas.List.Elements.{Contains-append_left, Contains-push_cases, Contains-get_or, All-filter, All-contains_itself, All-contains}
use Rattle.std.proofs.lemmas.List.Quantifiers.{all_pairs_push}
use Rattle.std.proofs.lemmas.List.Kept.{AllPairs-filter}
use Rattle.at_tree.specs.Tree.{children, without_number, IsPath, Reaches, IsTree}
use Rattle.at_tree.proofs.Members.{none_in}
use Rattle.at_tree.proofs.Paths.{reach_here, reach_step, reach_trans, path_more}

-- a write of one list, seen whole: f is what a list shows, tree what all showed before
pub written : {X : Type 0} (f : X → List ℕ) (change : List ℕ → List ℕ) (xs : List X) (tree : List (List ℕ)) (i base : ℕ) (x y : X) → map f xs ≡ tree → i ≡ base → base < length tree → x ≡ get_or xs i x → f y ≡ change (f x) → map f (set xs i y) ≡ set tree base (change (children tree base))
written {X} f change xs tree i base x y shown at inside was is =
    let in_xs : i < length xs = omega (arith, ap length shown, length-map xs f) in
    let before : f x ≡ children tree base =
    ap f was ∙ sym (get_or-map f xs i x [] in_xs) ∙ ap (λ t. get_or t i []) shown ∙ ap (λ k. get_or tree k []) at in
    map-set f xs i y ∙ ap (λ t. set t i (f y)) shown ∙ ap (λ k. set tree k (f y)) at ∙ ap (set tree base) (is ∙ ap change before)

-- the same where the list is what it was
pub rewritten : {X : Type 0} (f : X → List ℕ) (xs : List X) (tree : List (List ℕ)) (i base : ℕ) (x y : X) → map f xs ≡ tree → i ≡ base → base < length tree → x ≡ get_or xs i x → f y ≡ f x → map f (set xs i y) ≡ tree
rewritten f xs tree i base x y shown at inside was is =
    written f (λ list. list) xs tree i base x y shown at inside was is ∙ set-get_or tree base []

-- what is in a filtered list is in the list
pub in_filter : (p : ℕ → Bool) (xs : List ℕ) (x : ℕ) → Contains (filter p xs) x → Contains xs x
in_filter p xs x h = All-contains (Contains xs) (filter p xs) x (All-filter p (Contains xs) xs (All-contains_itself xs)) h

module _ (tree : List (List ℕ)) (t : IsTree tree) (base c : ℕ) (base_in : base < length tree) where
  -- the direct subclasses of each class after a write of one list
  children_set : (list : List ℕ) (P : List ℕ → Type 0) (k : ℕ) → (k ≡ base → P list) → (k ≢ base → P (children tree k)) → P (children (set tree base list) k)
  children_set list P k here other =
      ⊎_elim
      (λ e. subst P (sym (ap (λ j. get_or (set tree base list) j []) e ∙ get_or-set_same tree base list [] base_in)) (here e))
      (λ ne. subst P (sym (get_or-set_other tree base k list [] ne)) (other ne))
      (cases_eq k base)

  -- a pair of the tree with c below base was there, or is that pair
  pair_added : (k e : ℕ) → Contains (children (set tree base (children tree base ++ c ∷ [])) k) e → Contains (children tree k) e ⊎ ((k ≡ base) × (e ≡ c))
  pair_added k =
      children_set (children tree base ++ c ∷ []) (λ list. (e : ℕ) → Contains list e → Contains (children tree k) e ⊎ ((k ≡ base) × (e ≡ c))) k
      (λ at e h. ⊎_elim (λ old. inl (subst (λ j. Contains (children tree j) e) (sym at) old)) (λ new. inr (at, sym new)) (Contains-push_cases (children tree base) c e h))
      (λ _ e h. inl h)

  -- what the tree with c below base reaches was reached, or lies below c, from where base was reached
  path_added : (a : ℕ) (path : List ℕ) (d : ℕ) → IsPath (set tree base (children tree base ++ c ∷ [])) [] a path d → Reaches tree [] a d ⊎ (Reaches tree [] a base × Reaches tree [] c d)
  path_added a [] d p = inl ([], p)
  path_added a (e ∷ path) d p =
      ⊎_elim
      (λ old. ⊎_elim
      (λ r. inl (reach_step tree [] a e d old r))
      (λ r. inr (reach_step tree [] a e base old r.0, r.1))
      (path_added e path d p.1))
      (λ new. inr (reach_here tree [] a base new.0, ⊎_elim (λ r. subst (λ x. Reaches tree [] x d) new.1 r) (λ r. r.1) (path_added e path d p.1)))
      (pair_added a e p.0)

  -- a pair whose base doesn't lie below its class leaves a tree
  pub added : c < length tree → ¬ Contains (children tree base) c → ¬ Reaches tree [] c base → IsTree (set tree base (children tree base ++ c ∷ []))
  added c_in absent not_below =
      let new : List (List ℕ) = set tree base (children tree base ++ c ∷ []) in
      let size : length new ≡ length tree = length-set tree base (children tree base ++ c ∷ []) in
      record {
        small = omega (arith, t.small);
        numbers = λ k d h. subst (λ n. d < n) (sym size) (⊎_elim (λ old. t.numbers k d old) (λ one. subst (λ x. x < length tree) (sym one.1) c_in) (pair_added k d h));
        once = λ k. children_set (children tree base ++ c ∷ []) (AllPairs (λ x y. x ≢ y)) k
            (λ _. all_pairs_push (λ x y. x ≢ y) (children tree base) c (t.once base) (λ j d lt e. absent (subst (Contains (children tree base)) e (Contains-get_or (children tree base) j d lt))))
            (λ _. t.once k);
        acyclic = λ k d h r. ⊎_elim
            (λ old. ⊎_elim
            (λ q. t.acyclic k d old q)
            (λ q. not_below (reach_trans tree [] c k base q.1 (reach_step tree [] k d base old q.0)))
            (path_added d r.0 k r.1))
            (λ one. not_below (⊎_elim
            (λ q. subst (λ x. Reaches tree [] x base) one.1 (subst (Reaches tree [] d) one.0 q))
            (λ q. subst (λ x. Reaches tree [] x base) one.1 q.0)
            (path_added d r.0 k r.1)))
            (pair_added k d h);
      }

  -- a pair of the tree in which base hasn't c was there
  pair_from_removed : (k e : ℕ) → Contains (children (set tree base (without_number (children tree base) c)) k) e → Contains (children tree k) e
  pair_from_removed k =
      children_set (without_number (children tree base) c) (λ list. (e : ℕ) → Contains list e → Contains (children tree k) e) k
      (λ at e h. subst (λ j. Contains (children tree j) e) (sym at) (in_filter (λ d. not (eqb d c)) (children tree base) e h))
      (λ _ e h. h)

  -- a tree stays one without a pair
  pub removed : IsTree (set tree base (without_number (children tree base) c))
  removed =
      let size : length (set tree base (without_number (children tree base) c)) ≡ length tree = length-set tree base (without_number (children tree base) c) in
      record {
        small = omega (arith, t.small);
        numbers = λ k d h. subst (λ n. d < n) (sym size) (t.numbers k d (pair_from_removed k d h));
        once = λ k. children_set (without_number (children tree base) c) (AllPairs (λ x y. x ≢ y)) k
            (λ _. AllPairs-filter (λ x y. x ≢ y) (λ d. not (eqb d c)) (children tree base) (t.once base))
            (λ _. t.once k);
        acyclic = λ k d h r. t.acyclic k d (pair_from_removed k d h) (path_more (set tree base (without_number (children tree base) c)) tree pair_from_removed d r.0 k r.1);
      }

  -- a pair of the tree is still there with c below base
  pair_stays : (k e : ℕ) → Contains (children tree k) e → Contains (children (set tree base (children tree base ++ c ∷ [])) k) e
  pair_stays k e h =
      children_set (children tree base ++ c ∷ []) (λ list. Contains list e) k
      (λ at. Contains-append_left (children tree base) (c ∷ []) e (subst (λ j. Contains (children tree j) e) at h))
      (λ _. h)

  -- what lies below c is the same with c below base
  pub added_below : ¬ Reaches tree [] c base → (d : ℕ) → Reaches (set tree base (children tree base ++ c ∷ [])) [] c d ↔ Reaches tree [] c d
  added_below not_below d = (
    (λ r. ⊎_elim (λ old. old) (λ q. absurd (not_below q.0)) (path_added c r.0 d r.1)),
    (λ r. path_more tree (set tree base (children tree base ++ c ∷ [])) pair_stays c r.0 d r.1),
  )

  -- a path below c doesn't come to base
  path_apart : Contains (children tree base) c → (a : ℕ) (path : List ℕ) (d : ℕ) → Reaches tree [] c a → IsPath tree [] a path d → Reaches (set tree base (without_number (children tree base) c)) [] a d
  path_apart pair a [] d r p = ([], p)
  path_apart pair a (e ∷ path) d r p =
      let new : List (List ℕ) = set tree base (without_number (children tree base) c) in
      let next : Reaches tree [] c e = reach_trans tree [] c a e r (reach_step tree [] a e e p.0 (reach_here tree [] e e refl)) in
      let still_there : Contains (children new a) e =
      children_set (without_number (children tree base) c) (λ list. Contains list e) a (λ at. absurd (t.acyclic base c pair (subst (Reaches tree [] c) at r))) (λ _. p.0) in
      reach_step new [] a e d still_there (path_apart pair e path d next p.1)

  -- what lies below c is the same without c below base
  pub removed_below : Contains (children tree base) c → (d : ℕ) → Reaches (set tree base (without_number (children tree base) c)) [] c d ↔ Reaches tree [] c d
  removed_below pair d = (
    (λ r. path_more (set tree base (without_number (children tree base) c)) tree pair_from_removed c r.0 d r.1),
    (λ r. path_apart pair c r.0 d (reach_here tree [] c c refl) r.1),
  )

-- a tree without pairs has no direct subclass
children_empty : (n k : ℕ) → children (replicate n []) k ≡ []
children_empty n k = ⊎_elim (λ lt. get_or-replicate n k [] [] lt) (λ le. get_or_past (replicate n []) k [] (omega (arith, length-replicate {A = List ℕ} n []))) (cases_lt k n)

pub empty : (n : ℕ) → n < 2 ^ 16 → IsTree (replicate n [])
empty n fits = record {
  small = subst (λ m. m < 2 ^ 16) (sym (length-replicate n [])) fits;
  numbers = λ k d h. absurd (none_in d (subst (λ list. Contains list d) (children_empty n k) h));
  once = λ k. subst (AllPairs (λ x y. x ≢ y)) (sym (children_empty n k)) (λ i j d _ lt. absurd (omega arith));
  acyclic = λ k d h r. none_in d (subst (λ list. Contains list d) (children_empty n k) h);
}
