-- The invariant of the walk's loop.
use Rattle.std.proofs.Common.{◌≡◌, ℕ, zero, suc, ◌+◌, ◌-◌, ◌<◌, ◌≤◌, Bool, true, false, cond, List, [], ◌∷◌, ◌++◌, length, get_or, set, drop, map, replicate, reverse, sum_by, Some, None, Contains, ◌⊎◌, inl, inr, ⊎_elim, refl, sym, ap, ◌∙◌, subst, arith}
use Rattle.std.specs.List.{slice_get}
use Rattle.std.proofs.lemmas.Bool.{cases_eq, cases_lt, false≢true}
use Rattle.std.proofs.lemmas.List.{get_or-set_same, get_or-set_other, length-set, length-replicate, get_or-replicate, get_or_past, drop_more, drop_all, reverse-append}
use Rattle.std.proofs.lemmas.List.Sums.{sum_by-set, sum_by_push, get_or-le-sum_by}
use Rattle.std.proofs.lemmas.List.Elements.{Contains-append_left, Contains-push, Contains-push_cases, Contains-get_or}
use Rattle.std.proofs.lemmas.Option.{slice_get_within, get_or_from_slice_get}
use Rattle.at_tree.specs.declared.walk.Stage.{Stage}
use Rattle.at_tree.specs.Tree.{children, entered, IsTree}
use Rattle.at_tree.proofs.Members.{none_in, in_here, in_there, in_cons}
use Rattle.at_tree.proofs.Walks.{Walks, done, again, first}
use Rattle.at_tree.proofs.Depth.{IsTrail, trail_new, trail_more}

-- the classes of stages
abbrev pub classes : List Stage → List ℕ
classes stages = map (λ s. s.class) stages

-- the list once these stages, the innermost first, are gone through to their ends
abbrev pub Finishes : List (List ℕ) → List Bool → List Stage → List ℕ → List ℕ → Type 0
Finishes tree stop [] list out = list ≡ out
Finishes tree stop (s ∷ ss) list out = (mid : List ℕ) × Walks tree stop list (drop s.next (entered tree stop s.class)) mid × Finishes tree stop ss (mid ++ s.class ∷ []) out

-- where the walk from c stands, with the innermost stage first
pub record Going (tree : List (List ℕ)) (stop : List Bool) (c : ℕ) (seen : List Bool) (stages : List Stage) (list : List ℕ) : Type 0 where
  pub finishes : (out : List ℕ) → Finishes tree stop stages list out → Walks tree stop [] (c ∷ []) out
  pub trail : IsTrail tree (classes stages)
  pub size : length seen ≡ length tree
  -- a class is seen exactly if it is in the list or gone through
  pub seen_in : (d : ℕ) → get_or seen d false ≡ true → Contains list d ⊎ Contains (classes stages) d
  pub in_seen : (d : ℕ) → Contains list d ⊎ Contains (classes stages) d → get_or seen d false ≡ true

-- the stage one class on
abbrev pub on : Stage → Stage
on s = record s { next = s.next + 1 }

-- a stage at its first class
abbrev pub fresh : ℕ → Stage
fresh d = record { class = d; next = 0 }

-- before the walk no class is seen
none_seen : (n d : ℕ) → get_or (replicate n false) d false ≡ false
none_seen n d = ⊎_elim (get_or-replicate n d false false) (λ le. get_or_past (replicate n false) d false (omega (arith, length-replicate {A = Bool} n false))) (cases_lt d n)

-- an index at which there is no element is past the end
at_end : (xs : List ℕ) (i : ℕ) → slice_get xs i ≡ None → length xs ≤ i
at_end [] i e = omega arith
at_end (x ∷ xs) zero e = cc
at_end (x ∷ xs) (suc i) e = omega (arith, at_end xs i e)

module _ (tree : List (List ℕ)) (stop : List Bool) (t : IsTree tree) (c : ℕ) where
  -- at the start c is gone through and nothing is in the list
  pub start : c < length tree → Going tree stop c (set (replicate (length tree) false) c true) (fresh c ∷ []) []
  start lt =
      let n : ℕ = length tree in
      let in_seen : c < length (replicate n false) = omega (arith, length-replicate {A = Bool} n false) in
      record {
        finishes = λ out f. subst (Walks tree stop [] (c ∷ [])) f.2 (first (none_in c) f.1 done);
        trail = (lt, tt, tt);
        size = length-set (replicate n false) c true ∙ length-replicate n false;
        seen_in = λ d h. ⊎_elim
            (λ at. inr (subst (Contains (c ∷ [])) (sym at) (in_here c [])))
            (λ ne. absurd (false≢true (sym (none_seen n d) ∙ sym (get_or-set_other (replicate n false) c d true false ne) ∙ h)))
            (cases_eq d c);
        in_seen = λ d h. ⊎_elim
            (λ none. absurd (none_in d none))
            (λ one. ⊎_elim
            (λ at. ap (λ x. get_or (set (replicate n false) c true) x false) (sym at) ∙ get_or-set_same (replicate n false) c true false in_seen)
            (λ none. absurd (none_in d none))
            (in_cons c [] d one))
            h;
      }

  module _ (seen : List Bool) (s : Stage) (ss : List Stage) (list : List ℕ) (g : Going tree stop c seen (s ∷ ss) list) where
    -- the class is added once nothing is left below it
    pub leave : slice_get (entered tree stop s.class) s.next ≡ None → Going tree stop c seen ss (list ++ s.class ∷ [])
    leave past =
        let nothing : drop s.next (entered tree stop s.class) ≡ [] = drop_all s.next (entered tree stop s.class) (at_end (entered tree stop s.class) s.next past) in
        record {
          finishes = λ out f. g.finishes out (list, subst (λ xs. Walks tree stop list xs list) (sym nothing) done, f);
          trail = g.trail.2;
          size = g.size;
          seen_in = λ d h. ⊎_elim
              (λ old. inl (Contains-append_left list (s.class ∷ []) d old))
              (λ gone. ⊎_elim (λ at. inl (subst (Contains (list ++ s.class ∷ [])) at (Contains-push list s.class))) inr (in_cons s.class (classes ss) d gone))
              (g.seen_in d h);
          in_seen = λ d h. g.in_seen d (⊎_elim
              (λ listed. ⊎_elim inl (λ at. inr (subst (Contains (s.class ∷ classes ss)) at (in_here s.class (classes ss)))) (Contains-push_cases list s.class d listed))
              (λ gone. inr (in_there s.class (classes ss) d gone))
              h);
        }

    module _ (d : ℕ) (at : slice_get (entered tree stop s.class) s.next ≡ Some d) where
      -- what is left below the stage's class
      rest : drop s.next (entered tree stop s.class) ≡ d ∷ drop (s.next + 1) (entered tree stop s.class)
      rest =
          let below : List ℕ = entered tree stop s.class in
          drop_more below s.next d (slice_get_within below s.next d at) ∙ ap (λ x. x ∷ drop (s.next + 1) below) (get_or_from_slice_get below s.next d d at)

      -- it is entered from the stage's class
      below_in : Contains (entered tree stop s.class) d
      below_in =
          let below : List ℕ = entered tree stop s.class in
          subst (Contains below) (get_or_from_slice_get below s.next d d at) (Contains-get_or below s.next d (slice_get_within below s.next d at))

      -- with the class below it the trail is longer
      longer : IsTrail tree (d ∷ classes (s ∷ ss))
      longer = trail_more tree stop t s.class (classes ss) g.trail d below_in

      -- a class below it that is in the list adds nothing
      pub skip : get_or seen d false ≡ true → Going tree stop c seen (on s ∷ ss) list
      skip old =
          let listed : Contains list d = ⊎_elim (λ h. h) (λ gone. absurd (trail_new tree stop t d (classes (s ∷ ss)) longer gone)) (g.seen_in d old) in
          record {
            finishes = λ out f. g.finishes out (f.0, subst (λ xs. Walks tree stop list xs f.0) (sym rest) (again listed f.1), f.2);
            trail = g.trail;
            size = g.size;
            seen_in = g.seen_in;
            in_seen = g.in_seen;
          }

      -- a class below it that isn't in the list is gone through first
      pub enter : get_or seen d false ≡ false → Going tree stop c (set seen d true) (fresh d ∷ on s ∷ ss) list
      enter new =
          let absent : ¬ Contains list d = λ h. false≢true (sym new ∙ g.in_seen d (inl h)) in
          let inside : d < length seen = omega (arith, longer.0, g.size) in
          record {
            finishes = λ out f. g.finishes out (f.2.0, subst (λ xs. Walks tree stop list xs f.2.0) (sym rest) (first absent f.1 f.2.1), f.2.2);
            trail = longer;
            size = length-set seen d true ∙ g.size;
            seen_in = λ e h. ⊎_elim
                (λ same. inr (subst (Contains (d ∷ classes (s ∷ ss))) (sym same) (in_here d (classes (s ∷ ss)))))
                (λ ne. ⊎_elim inl (λ gone. inr (in_there d (classes (s ∷ ss)) e gone)) (g.seen_in e (sym (get_or-set_other seen d e true false ne) ∙ h)))
                (cases_eq e d);
            in_seen = λ e h. ⊎_elim
                (λ same. ap (λ x. get_or (set seen d true) x false) same ∙ get_or-set_same seen d true false inside)
                (λ ne. get_or-set_other seen d e true false ne ∙ g.in_seen e (⊎_elim inl (λ gone. ⊎_elim (λ same. absurd (ne (sym same))) inr (in_cons d (classes (s ∷ ss)) e gone)) h))
                (cases_eq e d);
          }

  -- at the end of all stages the list is that of the walk
  pub finish : (seen : List Bool) (list : List ℕ) → Going tree stop c seen [] list → Walks tree stop [] (c ∷ []) list
  finish seen list g = g.finishes list refl

-- how much a class that isn't seen may still bring: itself and all pairs
abbrev pub unseen_work : List (List ℕ) → List Bool → ℕ
unseen_work tree seen = sum_by (λ b. cond b 0 (2 + sum_by length tree)) seen

-- how much is left of the stages
abbrev pub stage_work : List (List ℕ) → List Bool → List Stage → ℕ
stage_work tree stop stages = sum_by (λ s. 1 + (length (entered tree stop s.class) - s.next)) stages

-- the measure of the walk: it falls with each step
abbrev pub work : List (List ℕ) → List Bool → List Bool → List Stage → ℕ
work tree stop seen stages = unseen_work tree seen + stage_work tree stop stages

-- no class has more direct subclasses than there are pairs
entered_short : (tree : List (List ℕ)) (stop : List Bool) (d : ℕ) → d < length tree → length (entered tree stop d) ≤ sum_by length tree
entered_short tree stop d lt =
    elim (get_or stop d false) as (λ b. length (cond b [] (children tree d)) ≤ sum_by length tree) [
      | true ↦ omega arith
      | false ↦ get_or-le-sum_by length tree d [] lt
    ]

-- a class that adds nothing leaves less to do
pub less_skipped : (tree : List (List ℕ)) (stop seen : List Bool) (stages : List Stage) (s : Stage) → s.next < length (entered tree stop s.class) → work tree stop seen (stages ++ on s ∷ []) < work tree stop seen (stages ++ s ∷ [])
less_skipped tree stop seen stages s lt =
    let weight : Stage → ℕ = λ s. 1 + (length (entered tree stop s.class) - s.next) in
    omega (arith, sum_by_push weight stages s, sum_by_push weight stages (on s))

-- a class that is gone into leaves less to do
pub less_entered : (tree : List (List ℕ)) (stop seen : List Bool) (stages : List Stage) (s : Stage) (d : ℕ) → s.next < length (entered tree stop s.class) → d < length tree → d < length seen → get_or seen d false ≡ false → work tree stop (set seen d true) ((stages ++ on s ∷ []) ++ fresh d ∷ []) < work tree stop seen (stages ++ s ∷ [])
less_entered tree stop seen stages s d lt in_tree in_seen new =
    let weight : Stage → ℕ = λ s. 1 + (length (entered tree stop s.class) - s.next) in
    let cost : Bool → ℕ = λ b. cond b 0 (2 + sum_by length tree) in
    let before : cost (get_or seen d false) ≡ 2 + sum_by length tree = ap cost new in
    omega (arith, sum_by_push weight stages s, sum_by_push weight stages (on s), sum_by_push weight (stages ++ on s ∷ []) (fresh d), sum_by-set cost seen d true false in_seen, before, entered_short tree stop d in_tree)

-- The steps of the loop, whose stages have the innermost at the end: s is taken off the end and rest stays.
module _ (tree : List (List ℕ)) (stop : List Bool) (t : IsTree tree) (c : ℕ) (seen : List Bool) (stages rest : List Stage) (s : Stage) (list : List ℕ) (at : stages ≡ rest ++ s ∷ []) (g : Going tree stop c seen (reverse stages) list) where
  -- s is the innermost stage
  top : Going tree stop c seen (s ∷ reverse rest) list
  top = subst (λ ss. Going tree stop c seen ss list) (ap reverse at ∙ reverse-append rest (s ∷ [])) g

  -- nothing is left below s: its class is added
  pub left : (out : List ℕ) → slice_get (entered tree stop s.class) s.next ≡ None → out ≡ list ++ s.class ∷ [] → Going tree stop c seen (reverse rest) out
  left out past e = subst (Going tree stop c seen (reverse rest)) (sym e) (leave tree stop t c seen s (reverse rest) list top past)

  module _ (d i : ℕ) (below : slice_get (entered tree stop s.class) s.next ≡ Some d) (same : i ≡ d) (next : List Stage) (on_at : next ≡ rest ++ on s ∷ []) where
    -- the next class below s has its flag
    pub inside : i < length seen
    inside = omega (arith, (longer tree stop t c seen s (reverse rest) list top d below).0, top.size)

    -- it was seen: s goes on
    pub skipped : get_or seen i false ≡ true → Going tree stop c seen (reverse next) list
    skipped old =
        subst (λ ss. Going tree stop c seen ss list) (sym (ap reverse on_at ∙ reverse-append rest (on s ∷ [])))
        (skip tree stop t c seen s (reverse rest) list top d below (subst (λ k. get_or seen k false ≡ true) same old))

    pub skipped_less : work tree stop seen next < work tree stop seen stages
    skipped_less =
        subst (λ ss. work tree stop seen ss < work tree stop seen stages) (sym on_at)
        (subst (λ ss. work tree stop seen (rest ++ on s ∷ []) < work tree stop seen ss) (sym at)
        (less_skipped tree stop seen rest s (slice_get_within (entered tree stop s.class) s.next d below)))

    module _ (new : get_or seen i false ≡ false) (last : List Stage) (fresh_at : last ≡ next ++ fresh d ∷ []) where
      -- it wasn't seen: s goes on once it is gone through
      pub gone_into : Going tree stop c (set seen i true) (reverse last) list
      gone_into =
          subst (λ k. Going tree stop c (set seen k true) (reverse last) list) (sym same)
          (subst (λ ss. Going tree stop c (set seen d true) ss list)
          (sym (ap reverse fresh_at ∙ reverse-append next (fresh d ∷ []) ∙ ap (λ ss. fresh d ∷ reverse ss) on_at ∙ ap (λ ss. fresh d ∷ ss) (reverse-append rest (on s ∷ []))))
          (enter tree stop t c seen s (reverse rest) list top d below (subst (λ k. get_or seen k false ≡ false) same new)))

      pub gone_into_less : work tree stop (set seen i true) last < work tree stop seen stages
      gone_into_less =
          let low : d < length tree = (longer tree stop t c seen s (reverse rest) list top d below).0 in
          let less : work tree stop (set seen d true) ((rest ++ on s ∷ []) ++ fresh d ∷ []) < work tree stop seen (rest ++ s ∷ []) =
          less_entered tree stop seen rest s d (slice_get_within (entered tree stop s.class) s.next d below) low (omega (arith, low, top.size)) (subst (λ k. get_or seen k false ≡ false) same new) in
          subst (λ k. work tree stop (set seen k true) last < work tree stop seen stages) (sym same)
          (subst (λ ss. work tree stop (set seen d true) ss < work tree stop seen stages) (sym (fresh_at ∙ ap (λ ss. ss ++ fresh d ∷ []) on_at))
          (subst (λ ss. work tree stop (set seen d true) ((rest ++ on s ∷ []) ++ fresh d ∷ []) < work tree stop seen ss) (sym at) less))
