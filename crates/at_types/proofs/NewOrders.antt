-- Orders once a class has other bases: those of the classes below it are computed anew, and all others stay.
use Rattle.std.proofs.Common.{◌≡◌, ◌≢◌, ◌∙◌, ap, sym, refl, subst, ℕ, zero, suc, ◌+◌, ◌-◌, ◌<◌, ◌≤◌, ◌==◌, ◌&&◌, inl, inr, cond, length, length-take, get_or, set, take, drop, map, replicate, List, [], ◌∷◌, ◌++◌, Option, Some, None, Bool, true, false, is_some, is_none, IsTrue, All, Contains, arith}
use Rattle.std.specs.Option.{unwrap_or}
use Rattle.std.specs.List.{list_all, list_any}
use Rattle.std.proofs.lemmas.Bool.{cases_eq, cases_lt, and_parts, or_parts, or_cases, eq-eqb, eqb-true, ne_eqb, false≢true, false_from_ne_true}
use Rattle.std.proofs.lemmas.List.{get_or-set_same, get_or-set_other, get_or_past, get_or-take, get_or-drop, get_or-replicate, length-set, length-drop, length-replicate, take-append-drop, drop_more, drop_all}
use Rattle.at_c3.proofs.NumberLemmas.{has, Contains-from_has, has-from_Contains}
use Rattle.at_tree.specs.Tree.{children, entered, Reaches}
use Rattle.at_tree.specs.Walk.{IsWalk}
use Rattle.at_tree.proofs.Members.{in_cons, in_here, in_there}
use Rattle.at_tree.proofs.Paths.{reach_all, reach_unmarked}
use Rattle.at_value.specs.Widths as widths
use Rattle.at_model.specs.declared.rows.ClassRow.{ClassRow}
use Rattle.at_model.specs.World.{World, row_of, own_of, bases_of, all_orders, merged_order, order_in, order_of}
use Rattle.at_model.specs.Step.{is_in_order, is_cycle, are_made, rebased, first_unordered_from, first_unordered, unless_unordered, if_ordered, with_bases}
use Rattle.at_model.specs.StoredOrders.{AreOrders}
use Rattle.at_model.proofs.Orders.{made_below, not_made}
use Rattle.at_model.proofs.NewBases.{order_in-apart, order_by_bases, made-rebased}
use Rattle.at_types.specs.ClassSteps.{world_of}
use Rattle.at_types.specs.Kept.{AreWhole}
use Rattle.at_types.specs.Subclasses.{IsWholeWalk}
use Rattle.at_types.specs.Renewing.{NewOrders, order_now, new_bases, IsRight, AreRenewed, AreRenewedFrom, is_lost, first_lost}
use Rattle.at_types.proofs.SubclassLemmas.{made_from_reaches, base_is_made, above_from_in_order, reaches_from_above}

-- The rows once the class has other bases

abbrev new_row : List (Option ClassRow) → ℕ → List ℕ → ClassRow
new_row classes c bases = record { bases = bases; own = own_of (row_of classes c) }

-- each class that is made has its new bases
row_changed : (classes : List (Option ClassRow)) (c : ℕ) (bases : List ℕ) (d : ℕ) → IsTrue (is_some (row_of classes c)) → IsTrue (is_some (row_of classes d))
    → (row : ClassRow) × (row_of (rebased classes c bases) d ≡ Some row) × (row.bases ≡ new_bases classes c bases d)
row_changed classes c bases d made there =
    let row : Option ClassRow = Some (new_row classes c bases) in
    elim (cases_eq d c) [
      | inl same ↦ (
        new_row classes c bases,
        ap (row_of (set classes c row)) same ∙ get_or-set_same classes c row None (made_below classes c made),
        sym (ap (λ t. cond t bases (bases_of (row_of classes d))) (eq-eqb d c same)),
      )
      | inr other ↦
          elim (row_of classes d) as (λ r. row_of classes d ≡ r → (row : ClassRow) × (row_of (rebased classes c bases) d ≡ Some row) × (row.bases ≡ new_bases classes c bases d)) [
            | None ↦ λ none. absurd (not_made classes d none there)
            | Some held ↦ λ at. (
              held,
              get_or-set_other classes c d row None other ∙ at,
              sym (ap (λ t. cond t bases (bases_of (row_of classes d))) (ne_eqb d c other) ∙ ap bases_of at),
            )
          ] refl
    ]

-- where the orders of the new bases are right, so is the order that they give
pub right_by_bases : (classes : List (Option ClassRow)) (c : ℕ) (bases : List ℕ) (f : ℕ → Option (List ℕ)) (d : ℕ) → IsTrue (is_some (row_of classes c)) → IsTrue (is_some (row_of classes d))
    → ((b : ℕ) → has b (new_bases classes c bases d) ≡ true → order_in (rebased classes c bases) b ≡ f b)
    → order_in (rebased classes c bases) d ≡ merged_order d (new_bases classes c bases d) (all_orders (map f (new_bases classes c bases d)))
right_by_bases classes c bases f d made there each =
    let changed = rebased classes c bases in
    let found = row_changed classes c bases d made there in
    order_by_bases changed f d found.0 found.1 (λ b at. each b (ap (has b) (sym found.2) ∙ at))
    ∙ ap (λ bs. merged_order d bs (all_orders (map f bs))) found.2

-- The walk

entered_all : (tree : List (List ℕ)) (stop : List Bool) → All (λ marked. marked ≡ false) stop → (c : ℕ) → entered tree stop c ≡ children tree c
entered_all tree stop none c =
    elim (cases_lt c (length stop)) [
      | inl below ↦ ap (λ b. cond b [] (children tree c)) (none c false below)
      | inr past ↦ ap (λ b. cond b [] (children tree c)) (get_or_past stop c false past)
    ]

-- a class has one place in the walk
one_place : (tree : List (List ℕ)) (stop : List Bool) (c : ℕ) (list : List ℕ) → IsWalk tree stop c list → (i j d : ℕ) → i < length list → j < length list
    → get_or list i d ≡ d → get_or list j d ≡ d → i ≡ j
one_place tree stop c list walk i j d in_i in_j at_i at_j =
    elim (cases_eq i j) [
      | inl same ↦ same
      | inr other ↦
          elim (cases_lt i j) [
            | inl less ↦ absurd (walk.once i j d less in_j (at_i ∙ sym at_j))
            | inr from ↦ absurd (walk.once j i d (omega arith) in_i (at_j ∙ sym at_i))
          ]
    ]

-- a class that a direct subclass of it stands before
comes_after : (tree : List (List ℕ)) (stop : List Bool) (c : ℕ) (list : List ℕ) → IsWalk tree stop c list → (i d b : ℕ) → i < length list → get_or list i d ≡ d
    → Contains list b → Contains (entered tree stop b) d → Contains (drop (i + 1) list) b
comes_after tree stop c list walk i d b within at there pair =
    let j = there.0 in
    let in_j : j < length list = there.1 in
    let split : list ≡ take j list ++ b ∷ drop (j + 1) list =
    sym (take-append-drop j list) ∙ ap (λ rest. take j list ++ rest) (drop_more list j b in_j ∙ ap (λ x. x ∷ drop (j + 1) list) there.2) in
    let before = walk.subclasses_first (take j list) (drop (j + 1) list) b d split pair in
    let k = before.0 in
    let below : k < j = omega (arith, before.1, length-take j list) in
    let at_k : get_or list k d ≡ d = sym (get_or-take j list k d below) ∙ before.2 in
    let same : k ≡ i = one_place tree stop c list walk k i d (omega arith) within at_k at in
    let later : i + 1 + (j - (i + 1)) ≡ j = omega arith in (
      j - (i + 1),
      omega (arith, length-drop (i + 1) list),
      get_or-drop (i + 1) list (j - (i + 1)) b ∙ ap (λ n. get_or list n b) later ∙ there.2,
    )

-- The orders so far

order_now-same : (classes : List (Option ClassRow)) (renewed : NewOrders) (d : ℕ) (order : Option (List ℕ)) → d < length renewed
    → order_now classes (set renewed d (Some order)) d ≡ order
order_now-same classes renewed d order within = ap (λ o. unwrap_or o (order_in classes d)) (get_or-set_same renewed d (Some order) None within)

order_now-other : (classes : List (Option ClassRow)) (renewed : NewOrders) (d e : ℕ) (order : Option (List ℕ)) → e ≢ d
    → order_now classes (set renewed d (Some order)) e ≡ order_now classes renewed e
order_now-other classes renewed d e order other = ap (λ o. unwrap_or o (order_in classes e)) (get_or-set_other renewed d e (Some order) None other)

order_now-old : (classes : List (Option ClassRow)) (renewed : NewOrders) (d : ℕ) → get_or renewed d None ≡ None → order_now classes renewed d ≡ order_in classes d
order_now-old classes renewed d none = ap (λ o. unwrap_or o (order_in classes d)) none

-- before the first class
pub renewed-start : (classes changed : List (Option ClassRow)) (list : List ℕ) → AreRenewedFrom classes changed list (length list) (replicate widths.classes None)
renewed-start classes changed list =
    let none_left : drop (length list) list ≡ [] = drop_all (length list) list (omega arith) in
    record {
      numbered = length-replicate {A = Option (Option (List ℕ))} widths.classes None;
      others = λ d _. elim (cases_lt d widths.classes) [
        | inl below ↦ get_or-replicate widths.classes d None None below
        | inr past ↦ get_or_past (replicate widths.classes None) d None (omega (arith, length-replicate {A = Option (Option (List ℕ))} widths.classes None))
      ];
      right = λ d at. let here : Contains [] d = subst (λ l. Contains l d) none_left at in absurd (omega (arith, here.1));
    }

module _ (classes : List (Option ClassRow)) (orders : List (List ℕ)) (are : AreOrders classes orders) (c : ℕ) (bases : List ℕ) (list : List ℕ)
    (made : IsTrue (is_some (row_of classes c))) (bases_made : list_all (λ b. is_some (row_of classes b)) bases ≡ true)
    (acyclic : list_any (λ b. is_in_order c (order_in classes b)) bases ≡ false) (whole : IsWholeWalk classes c list) where
  -- the class doesn't stand above a new base
  base_apart : (b : ℕ) (given : List ℕ) → list_all (λ x. is_some (row_of classes x)) given ≡ true → list_any (λ x. is_in_order c (order_in classes x)) given ≡ false → has b given ≡ true
      → IsTrue (is_some (row_of classes b)) × (has c (get_or orders b []) ≡ false)
  base_apart b [] all none at = absurd (false≢true at)
  base_apart b (x ∷ xs) all none at =
      let first = and_parts (is_some (row_of classes x)) (list_all (λ y. is_some (row_of classes y)) xs) all in
      let apart = or_parts (is_in_order c (order_in classes x)) (list_any (λ y. is_in_order c (order_in classes y)) xs) none in
      elim (or_cases (x == b) (has b xs) at) [
        | inl here ↦
            subst (λ y. IsTrue (is_some (row_of classes y)) × (has c (get_or orders y []) ≡ false)) (eqb-true x b here)
            (first.0, sym (ap (is_in_order c) (are x first.0)) ∙ apart.0)
        | inr later ↦ base_apart b xs first.1 apart.1 later
      ]

  -- a class that isn't in the walk has the order that it had
  outside : (d : ℕ) → IsTrue (is_some (row_of classes d)) → ¬ Contains list d → order_in (rebased classes c bases) d ≡ order_in classes d
  outside d there absent =
      let tree = whole.2.0 in
      let apart : has c (get_or orders d []) ≡ false = false_from_ne_true (has c (get_or orders d [])) (λ at.
      let reached : Reaches tree [] c d = reaches_from_above classes tree whole.2.1 c d (above_from_in_order classes orders are c d there at) in
      absent ((whole.2.2.reached d).1 (reach_all tree whole.0 whole.1 c d reached))) in
      order_in-apart classes orders c d (Some (new_row classes c bases)) are there apart

  -- a class of the walk is made
  pub in_walk_made : (d : ℕ) → Contains list d → IsTrue (is_some (row_of classes d))
  in_walk_made d at =
      let tree = whole.2.0 in
      made_from_reaches classes tree whole.2.1 c d made (reach_unmarked tree whole.0 c d ((whole.2.2.reached d).0 at))

  -- each base of a class of the walk has its order already, where the classes after that have theirs
  bases_right : (renewed : NewOrders) (i d : ℕ) → i < length list → get_or list i d ≡ d → AreRenewedFrom classes (rebased classes c bases) list (i + 1) renewed
      → (b : ℕ) → has b (new_bases classes c bases d) ≡ true → IsRight classes (rebased classes c bases) renewed b
  bases_right renewed i d within at so_far b base =
      elim (has b (drop (i + 1) list)) as (λ t. has b (drop (i + 1) list) ≡ t → IsRight classes (rebased classes c bases) renewed b) [
        | true ↦ λ there. so_far.right b (Contains-from_has b (drop (i + 1) list) there)
        | false ↦ λ none.
            let absent : ¬ Contains (drop (i + 1) list) b = λ there. false≢true (sym none ∙ has-from_Contains b (drop (i + 1) list) there) in
            let old = order_now-old classes renewed b (so_far.others b absent) in
            elim (d == c) as (λ t. (d == c) ≡ t → has b (cond t bases (bases_of (row_of classes d))) ≡ true → IsRight classes (rebased classes c bases) renewed b) [
              | true ↦ λ _ new.
                  let apart = base_apart b bases bases_made acyclic new in
                  order_in-apart classes orders c b (Some (new_row classes c bases)) are apart.0 apart.1 ∙ sym old
              | false ↦ λ _ held.
                  let pair : Contains (bases_of (row_of classes d)) b = Contains-from_has b (bases_of (row_of classes d)) held in
                  let tree = whole.2.0 in
                  let child : Contains (entered tree whole.0 b) d = subst (λ l. Contains l d) (sym (entered_all tree whole.0 whole.1 b)) ((whole.2.1.below b d).1 pair) in
                  outside b (base_is_made classes orders are b d pair) (λ there. absent (comes_after tree whole.0 c list whole.2.2 i d b within at there child)) ∙ sym old
            ] refl base
      ] refl

  -- one class more
  pub renewed-step : (renewed : NewOrders) (i d : ℕ) (order : Option (List ℕ)) → i < length list → d ≡ get_or list i d → AreRenewedFrom classes (rebased classes c bases) list (i + 1) renewed
      → order ≡ merged_order d (new_bases classes c bases d) (all_orders (map (order_now classes renewed) (new_bases classes c bases d)))
      → d < widths.classes → AreRenewedFrom classes (rebased classes c bases) list i (set renewed d (Some order))
  renewed-step renewed i d order within at so_far is below =
      let changed = rebased classes c bases in
      let rest : drop i list ≡ d ∷ drop (i + 1) list = drop_more list i d within ∙ ap (λ x. x ∷ drop (i + 1) list) (sym at) in
      let there : IsTrue (is_some (row_of classes d)) = in_walk_made d (i, within, sym at) in
      let right : order_in changed d ≡ order = right_by_bases classes c bases (order_now classes renewed) d made there (bases_right renewed i d within (sym at) so_far) ∙ sym is in
      let room : d < length renewed = omega (arith, so_far.numbered) in
      record {
        numbered = length-set renewed d (Some order) ∙ so_far.numbered;
        others = λ e absent.
            let other : e ≢ d = λ same. absent (subst (λ l. Contains l e) (sym rest) (subst (λ x. Contains (d ∷ drop (i + 1) list) x) (sym same) (in_here d (drop (i + 1) list)))) in
            get_or-set_other renewed d e (Some order) None other
            ∙ so_far.others e (λ later. absent (subst (λ l. Contains l e) (sym rest) (in_there d (drop (i + 1) list) e later)));
        right = λ e held. elim (cases_eq e d) [
          | inl same ↦ subst (IsRight classes changed (set renewed d (Some order))) (sym same) (right ∙ sym (order_now-same classes renewed d order room))
          | inr other ↦
              elim (in_cons d (drop (i + 1) list) e (subst (λ l. Contains l e) rest held)) [
                | inl here ↦ absurd (other (sym here))
                | inr later ↦ so_far.right e later ∙ sym (order_now-other classes renewed d e order other)
              ]
        ];
      }

  -- after the last class
  pub renewed-end : (renewed : NewOrders) → AreRenewedFrom classes (rebased classes c bases) list 0 renewed → AreRenewed classes (rebased classes c bases) renewed
  renewed-end renewed all = record {
    numbered = all.numbered;
    right = λ d made_now.
        let there : IsTrue (is_some (row_of classes d)) = sym (made-rebased classes c bases made d) ∙ made_now in
        elim (has d list) as (λ t. has d list ≡ t → IsRight classes (rebased classes c bases) renewed d) [
          | true ↦ λ at. all.right d (Contains-from_has d list at)
          | false ↦ λ none.
              let absent : ¬ Contains list d = λ at. false≢true (sym none ∙ has-from_Contains d list at) in
              outside d there absent ∙ sym (order_now-old classes renewed d (all.others d absent))
        ] refl;
    others = λ d none. all.others d (λ at. not_made (rebased classes c bases) d none (made-rebased classes c bases made d ∙ in_walk_made d at));
  }

-- The loop

default_any : (xs : List ℕ) (i a b : ℕ) → i < length xs → get_or xs i a ≡ get_or xs i b
default_any [] i a b within = absurd (omega arith)
default_any (x ∷ xs) zero a b within = refl
default_any (x ∷ xs) (suc i) a b within = default_any xs i a b (omega arith)

-- one class more, where this many are left
pub renewed-back : (classes : List (Option ClassRow)) (c : ℕ) (bases list : List ℕ) (renewed : NewOrders) (left : ℕ) (order : Option (List ℕ)) → AreWhole classes
    → IsTrue (are_made (world_of classes) (c ∷ bases)) → is_cycle (world_of classes) c bases ≡ false → IsWholeWalk classes c list → 0 < left → left ≤ length list
    → AreRenewedFrom classes (rebased classes c bases) list left renewed
    → (let d = get_or list (left - 1) 0 in
    order ≡ merged_order d (new_bases classes c bases d) (all_orders (map (order_now classes renewed) (new_bases classes c bases d)))
    → AreRenewedFrom classes (rebased classes c bases) list (left - 1) (set renewed d (Some order)))
renewed-back classes c bases list renewed left order whole made acyclic walk some within so_far is =
    let i = left - 1 in
    let d = get_or list i 0 in
    let both = and_parts (is_some (row_of classes c)) (list_all (λ b. is_some (row_of classes b)) bases) made in
    let are = whole.stored.1 in
    let in_list : i < length list = omega arith in
    let at : d ≡ get_or list i d = default_any list i 0 d in_list in
    let there = in_walk_made classes whole.stored.0 are c bases list both.0 both.1 acyclic walk d (i, in_list, sym at) in
    let back : left ≡ i + 1 = omega arith in
    renewed-step classes whole.stored.0 are c bases list both.0 both.1 acyclic walk renewed i d order in_list at
    (subst (λ n. AreRenewedFrom classes (rebased classes c bases) list n renewed) back so_far) is
    (let below = made_below classes d there in omega (arith, below, whole.numbered))

pub renewed-whole : (classes : List (Option ClassRow)) (c : ℕ) (bases list : List ℕ) (renewed : NewOrders) (left : ℕ) → AreWhole classes
    → IsTrue (are_made (world_of classes) (c ∷ bases)) → is_cycle (world_of classes) c bases ≡ false → IsWholeWalk classes c list → left ≤ 0
    → AreRenewedFrom classes (rebased classes c bases) list left renewed → AreRenewed classes (rebased classes c bases) renewed
renewed-whole classes c bases list renewed left whole made acyclic walk none all =
    let both = and_parts (is_some (row_of classes c)) (list_all (λ b. is_some (row_of classes b)) bases) made in
    let end : left ≡ 0 = omega arith in
    renewed-end classes whole.stored.0 whole.stored.1 c bases list both.0 both.1 acyclic walk renewed (subst (λ n. AreRenewedFrom classes (rebased classes c bases) list n renewed) end all)

-- The first class that has lost its order

first-same : (w : World) (k : ℕ) (rows : List (Option ClassRow)) (renewed : NewOrders) → length rows ≡ length renewed
    → ((i d : ℕ) → d ≡ k + i → (is_some (get_or rows i None) && is_none (order_of w d)) ≡ is_lost (get_or renewed i None))
    → first_unordered_from w k rows ≡ first_lost k renewed
first-same w k [] [] long each = refl
first-same w k [] (r ∷ renewed) long each = absurd (omega arith)
first-same w k (row ∷ rows) [] long each = absurd (omega arith)
first-same w k (row ∷ rows) (r ∷ renewed) long each =
    ap (λ t. cond t (Some k) (first_unordered_from w (suc k) rows)) (each 0 k (omega arith))
    ∙ ap (λ o. cond (is_lost r) (Some k) o) (first-same w (suc k) rows renewed (omega arith) (λ i d at. each (suc i) d (omega arith)))

lost_where_none : (made : Bool) (r : Option (Option (List ℕ))) (old now : Option (List ℕ)) → (made ≡ false → r ≡ None) → (made ≡ true → is_none old ≡ false)
    → (made ≡ true → now ≡ unwrap_or r old) → (made && is_none now) ≡ is_lost r
lost_where_none false r old now unmade ordered is = sym (ap is_lost (unmade refl))
lost_where_none true None old now unmade ordered is = ap is_none (is refl) ∙ ordered refl
lost_where_none true (Some None) old now unmade ordered is = ap is_none (is refl)
lost_where_none true (Some (Some order)) old now unmade ordered is = ap is_none (is refl)

none_from_test : (row : Option ClassRow) → is_some row ≡ false → row ≡ None
none_from_test None is = refl
none_from_test (Some row) is = absurd (false≢true (sym is))

-- it is the first without an order among the changed classes
pub first_lost-same : (classes : List (Option ClassRow)) (c : ℕ) (bases : List ℕ) (renewed : NewOrders) → AreWhole classes → IsTrue (is_some (row_of classes c))
    → AreRenewed classes (rebased classes c bases) renewed → first_unordered (with_bases (world_of classes) c bases) ≡ first_lost 0 renewed
first_lost-same classes c bases renewed whole made are =
    let changed = rebased classes c bases in
    let long : length changed ≡ length classes = length-set classes c (Some (new_row classes c bases)) in
    first-same (with_bases (world_of classes) c bases) 0 changed renewed (omega (arith, long, whole.numbered, are.numbered)) (λ i d at.
    let e : i ≡ d = omega arith in
    subst (λ n. (is_some (get_or changed n None) && is_none (order_in changed d)) ≡ is_lost (get_or renewed n None)) (sym e)
    (lost_where_none (is_some (row_of changed d)) (get_or renewed d None) (order_in classes d) (order_in changed d)
    (λ none. are.others d (none_from_test (row_of changed d) none))
    (λ there. ap is_none (whole.stored.1 d (sym (made-rebased classes c bases made d) ∙ there)))
    (λ there. are.right d there)))

-- what the change replies then
pub if_ordered-rebased : (classes : List (Option ClassRow)) (c : ℕ) (bases : List ℕ) (renewed given : NewOrders) (first : Option ℕ) → AreWhole classes
    → IsTrue (are_made (world_of classes) (c ∷ bases)) → AreRenewed classes (rebased classes c bases) renewed → given ≡ renewed → first ≡ first_lost 0 given
    → (let w = world_of classes in (unless_unordered w (with_bases w c bases) first).reply ≡ (if_ordered w (with_bases w c bases)).reply)
if_ordered-rebased classes c bases renewed given first whole made are same is =
    let w = world_of classes in
    let both = and_parts (is_some (row_of classes c)) (list_all (λ b. is_some (row_of classes b)) bases) made in
    ap (λ r. (unless_unordered w (with_bases w c bases) r).reply) (is ∙ ap (first_lost 0) same ∙ sym (first_lost-same classes c bases renewed whole both.0 are))
