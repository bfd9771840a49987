-- The walk as a relation, and what is true of its list.
use Rattle.std.proofs.Common.{◌≡◌, ◌≢◌, ◌↔◌, ℕ, ◌<◌, Bool, false, cond, List, [], ◌∷◌, ◌++◌, length, get_or, All, AllPairs, Contains, ◌⊎◌, inl, inr, ⊎_elim, sym, ap, ◌∙◌, append_assoc, subst, arith}
use Rattle.std.proofs.lemmas.Bool.{cases_Bool, false≢true}
use Rattle.std.proofs.lemmas.List.Elements.{Contains-append_left, Contains-push, Contains-push_cases, Contains-get_or}
use Rattle.std.proofs.lemmas.List.Quantifiers.{all_pairs_push}
use Rattle.at_tree.specs.Tree.{children, entered, IsPath, Reaches, IsTree}
use Rattle.at_tree.specs.Walk.{IsWalk, IsReachedFirst, AreClosed, IsUnmarkedFirst}
use Rattle.at_tree.proofs.Members.{none_in, in_here, in_there, in_cons, in_middle, split_at, split_push}
use Rattle.at_tree.proofs.Paths.{reach_here, reach_step, reach_unmarked, reach_all, reach_in, child_from_entered}

-- the list once these classes are in it, one after another, each after what it adds
pub data Walks (tree : List (List ℕ)) (stop : List Bool) : List ℕ → List ℕ → List ℕ → Type 0 where
  done : {list : List ℕ} → Walks tree stop list [] list
  again : {list : List ℕ} {c : ℕ} {cs out : List ℕ} → Contains list c → Walks tree stop list cs out → Walks tree stop list (c ∷ cs) out
  first : {list : List ℕ} {c : ℕ} {cs out mid : List ℕ} → ¬ Contains list c → Walks tree stop list (entered tree stop c) mid → Walks tree stop (mid ++ c ∷ []) cs out → Walks tree stop list (c ∷ cs) out

-- each class stands after what is entered from it
pub record IsOrdered (tree : List (List ℕ)) (stop : List Bool) (list : List ℕ) : Type 0 where
  pub before : (prefix suffix : List ℕ) (d e : ℕ) → list ≡ prefix ++ d ∷ suffix → Contains (entered tree stop d) e → Contains prefix e

module _ (tree : List (List ℕ)) (stop : List Bool) where
  -- what was in the list stays
  pub preserved : (list cs out : List ℕ) → Walks tree stop list cs out → (d : ℕ) → Contains list d → Contains out d
  preserved list [] out done d h = h
  preserved list (c ∷ cs) out (again seen w) d h = preserved list cs out w d h
  preserved list (c ∷ cs) out (first {mid = mid} new v w) d h =
      preserved (mid ++ c ∷ []) cs out w d (Contains-append_left mid (c ∷ []) d (preserved list (entered tree stop c) mid v d h))

  -- each class that the walk comes to is in the list
  pub listed : (list cs out : List ℕ) → Walks tree stop list cs out → (e : ℕ) → Contains cs e → Contains out e
  listed list [] out done e h = absurd (none_in e h)
  listed list (c ∷ cs) out (again seen w) e h =
      ⊎_elim (λ at. subst (Contains out) at (preserved list cs out w c seen)) (listed list cs out w e) (in_cons c cs e h)
  listed list (c ∷ cs) out (first {mid = mid} new v w) e h =
      ⊎_elim (λ at. subst (Contains out) at (preserved (mid ++ c ∷ []) cs out w c (Contains-push mid c))) (listed (mid ++ c ∷ []) cs out w e) (in_cons c cs e h)

  -- what is in the list was in it, or is reached from a class that the walk comes to
  pub reached_from : (list cs out : List ℕ) → Walks tree stop list cs out → (d : ℕ) → Contains out d → Contains list d ⊎ ((e : ℕ) × Contains cs e × Reaches tree stop e d)
  reached_from list [] out done d h = inl h
  reached_from list (c ∷ cs) out (again seen w) d h =
      ⊎_elim inl (λ r. inr (r.0, (in_there c cs r.0 r.1), r.2)) (reached_from list cs out w d h)
  reached_from list (c ∷ cs) out (first {mid = mid} new v w) d h =
      ⊎_elim
      (λ before. ⊎_elim
      (λ in_mid. ⊎_elim
      inl
      (λ r. inr (c, (in_here c cs), (reach_step tree stop c r.0 d r.1 r.2)))
      (reached_from list (entered tree stop c) mid v d in_mid))
      (λ at. inr (c, (in_here c cs), (reach_here tree stop c d at)))
      (Contains-push_cases mid c d before))
      (λ r. inr (r.0, (in_there c cs r.0 r.1), r.2))
      (reached_from (mid ++ c ∷ []) cs out w d h)

  -- the order is preserved
  pub ordered : (list cs out : List ℕ) → Walks tree stop list cs out → IsOrdered tree stop list → IsOrdered tree stop out
  ordered list [] out done o = o
  ordered list (c ∷ cs) out (again seen w) o = ordered list cs out w o
  ordered list (c ∷ cs) out (first {mid = mid} new v w) o =
      let all : (e : ℕ) → Contains (entered tree stop c) e → Contains mid e = listed list (entered tree stop c) mid v in
      let m : IsOrdered tree stop mid = ordered list (entered tree stop c) mid v o in
      ordered (mid ++ c ∷ []) cs out w (record {
        before = λ prefix suffix d e at h. ⊎_elim
            (λ last. subst (λ xs. Contains xs e) last.0 (all e (subst (λ x. Contains (entered tree stop x) e) (sym last.1) h)))
            (λ p. m.before prefix p.0 d e p.1 h)
            (split_push mid c prefix d suffix at);
      })

  -- what is reached from a class of an ordered list is in the list
  pub closed : (list : List ℕ) → IsOrdered tree stop list → (c : ℕ) (path : List ℕ) (d : ℕ) → Contains list c → IsPath tree stop c path d → Contains list d
  closed list o c [] d h p = subst (Contains list) p h
  closed list o c (e ∷ path) d h p =
      let at = split_at list c h in
      let before : Contains at.0 e = o.before at.0 at.1 c e at.2 p.0 in
      closed list o e path d (subst (λ xs. Contains xs e) (sym at.2) (Contains-append_left at.0 (c ∷ at.1) e before)) p.1

  module _ (t : IsTree tree) where
    -- a class isn't in the list once what is entered from it is
    pub new_after : (list mid : List ℕ) (c : ℕ) → ¬ Contains list c → Walks tree stop list (entered tree stop c) mid → ¬ Contains mid c
    new_after list mid c new v h =
        ⊎_elim new (λ r. t.acyclic c r.0 (child_from_entered tree stop c r.0 r.1) (reach_unmarked tree stop r.0 c r.2)) (reached_from list (entered tree stop c) mid v c h)

    -- no class is added twice
    pub once_each : (list cs out : List ℕ) → Walks tree stop list cs out → AllPairs (λ x y. x ≢ y) list → AllPairs (λ x y. x ≢ y) out
    once_each list [] out done o = o
    once_each list (c ∷ cs) out (again seen w) o = once_each list cs out w o
    once_each list (c ∷ cs) out (first {mid = mid} new v w) o =
        once_each (mid ++ c ∷ []) cs out w (all_pairs_push (λ x y. x ≢ y) mid c (once_each list (entered tree stop c) mid v o)
        (λ k d lt e. new_after list mid c new v (subst (Contains mid) e (Contains-get_or mid k d lt))))

    -- the list of the walk from one class
    pub walk_from : (c : ℕ) (out : List ℕ) → c < length tree → Walks tree stop [] (c ∷ []) out → IsWalk tree stop c out
    walk_from c out lt w =
        let o : IsOrdered tree stop out = ordered [] (c ∷ []) out w (record { before = λ prefix suffix d e at h. absurd (none_in d (subst (λ xs. Contains xs d) (sym at) (in_middle prefix d suffix))) }) in
        let sound : (d : ℕ) → Contains out d → Reaches tree stop c d =
        λ d h. ⊎_elim
        (λ none. absurd (none_in d none))
        (λ r. ⊎_elim (λ at. subst (λ x. Reaches tree stop x d) (sym at) r.2) (λ none. absurd (none_in r.0 none)) (in_cons c [] r.0 r.1))
        (reached_from [] (c ∷ []) out w d h) in
        record {
          numbers = λ k d in_out. reach_in tree t c _ lt (reach_unmarked tree stop c _ (sound _ (Contains-get_or out k d in_out)));
          once = once_each [] (c ∷ []) out w (λ i j d _ none. absurd (omega arith));
          reached = λ d. (sound d, (λ r. closed out o c r.0 d (listed [] (c ∷ []) out w c (in_here c [])) r.1));
          subclasses_first = o.before;
        }

-- where nothing is marked, the list of a walk has exactly what lies below its class
pub walk_unmarked : (tree : List (List ℕ)) (stop : List Bool) (c : ℕ) (out : List ℕ) → IsWalk tree stop c out → All (λ marked. marked ≡ false) stop → (d : ℕ) → Contains out d ↔ Reaches tree [] c d
walk_unmarked tree stop c out w none d =
    ((λ h. reach_unmarked tree stop c d ((w.reached d).0 h)), (λ r. (w.reached d).1 (reach_all tree stop none c d r)))

module _ (tree : List (List ℕ)) (stop : List Bool) (list : List ℕ) (o : IsOrdered tree stop list) where
  -- what is reached from a class in a prefix of an ordered list is in the prefix
  reached_in_prefix : (prefix suffix : List ℕ) → list ≡ prefix ++ suffix → (d : ℕ) (path : List ℕ) (e : ℕ) → Contains prefix d → IsPath tree stop d path e → Contains prefix e
  reached_in_prefix prefix suffix at d path e h p =
      closed tree stop prefix (record {
        before = λ first rest c f is entered. o.before first (rest ++ suffix) c f (at ∙ ap (λ l. l ++ suffix) is ∙ append_assoc first (c ∷ rest) suffix) entered;
      }) d path e h p

  reached_after : (prefix suffix : List ℕ) (d : ℕ) (path : List ℕ) (e : ℕ) → list ≡ prefix ++ d ∷ suffix → d ≢ e → IsPath tree stop d path e → Contains prefix e
  reached_after prefix suffix d [] e at other p = absurd (other p)
  reached_after prefix suffix d (f ∷ path) e at other p =
      reached_in_prefix prefix (d ∷ suffix) at f path e (o.before prefix suffix d f at p.0) p.1

  -- each class of an ordered list stands after what is reached from it
  pub reached_first : IsReachedFirst tree stop list
  reached_first = λ prefix suffix d e at other r. reached_after prefix suffix d r.0 e at other r.1

  -- where marks are closed downward, a path to an unmarked class goes through no marked one
  path_to_unmarked : AreClosed tree stop → (c : ℕ) (path : List ℕ) (e : ℕ) → get_or stop e false ≡ false → IsPath tree [] c path e → (get_or stop c false ≡ false) × IsPath tree stop c path e
  path_to_unmarked down c [] e none p = (ap (λ k. get_or stop k false) p ∙ none, p)
  path_to_unmarked down c (f ∷ path) e none p =
      let rest = path_to_unmarked down f path e none p.1 in
      let open_here : get_or stop c false ≡ false = elim (cases_Bool (get_or stop c false)) [
        | inl marked ↦ absurd (false≢true (sym rest.0 ∙ down c f marked p.0))
        | inr none_here ↦ none_here
      ] in
      (open_here, (subst (λ b. Contains (cond b [] (children tree c)) f) (sym open_here) p.0, rest.1))

  -- so each class stands after each unmarked class below it
  pub unmarked_first : AreClosed tree stop → IsUnmarkedFirst tree stop list
  unmarked_first down = λ prefix suffix d e at other none r.
      reached_after prefix suffix d r.0 e at other (path_to_unmarked down d r.0 e none r.1).1

-- the order of a walk
pub order_of : (tree : List (List ℕ)) (stop : List Bool) (c : ℕ) (out : List ℕ) → IsWalk tree stop c out → IsOrdered tree stop out
order_of tree stop c out w = record { before = w.subclasses_first }

-- where marks are closed downward, the list of a walk has exactly the unmarked classes that lie below its class
pub walk_closed : (tree : List (List ℕ)) (stop : List Bool) (c : ℕ) (out : List ℕ) → IsWalk tree stop c out → AreClosed tree stop → (d : ℕ) → get_or stop d false ≡ false → Contains out d ↔ Reaches tree [] c d
walk_closed tree stop c out w down d none = (
  (λ h. reach_unmarked tree stop c d ((w.reached d).0 h)),
  (λ r. (w.reached d).1 (r.0, (path_to_unmarked tree stop out (order_of tree stop c out w) down c r.0 d none r.1).1)),
)
