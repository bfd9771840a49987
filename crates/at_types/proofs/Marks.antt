-- Walks in which marks are closed downward, and orders.
use Rattle.std.proofs.Common.{◌≡◌, ◌⊎◌, sym, refl, subst, ℕ, inl, inr, cond, get_or, List, [], ◌∷◌, Option, Bool, true, false, is_some, IsTrue, Contains}
use Rattle.at_tree.specs.Tree.{children, entered, IsPath, Reaches}
use Rattle.at_tree.specs.Walk.{IsWalk, AreClosed}
use Rattle.at_tree.proofs.Members.{none_in, in_middle}
use Rattle.at_tree.proofs.Paths.{reach_here, reach_step, reach_trans, reach_unmarked, child_from_entered}
use Rattle.at_tree.proofs.Walks.{walk_closed, unmarked_first, order_of}
use Rattle.at_model.specs.declared.rows.ClassRow.{ClassRow}
use Rattle.at_model.specs.World.{row_of, order_in}
use Rattle.at_model.specs.Step.{is_in_order}
use Rattle.at_model.specs.StoredOrders.{AreOrders}
use Rattle.at_types.specs.Subclasses.{AreSubclasses, AreClosedBelow, IsBelow}
use Rattle.at_types.proofs.SubclassLemmas.{base_is_made, made_from_reaches, reached_in_order}

-- what is entered is entered from an unmarked class
open_from_entered : (tree : List (List ℕ)) (stop : List Bool) (c e : ℕ) → Contains (entered tree stop c) e → get_or stop c false ≡ false
open_from_entered tree stop c e at =
    elim (get_or stop c false) as (λ b. Contains (cond b [] (children tree c)) e → b ≡ false) [
      | true ↦ λ there. absurd (none_in e there)
      | false ↦ λ _. refl
    ] at

-- the direct subclasses of an unmarked class are entered
entered_from_open : (tree : List (List ℕ)) (stop : List Bool) (c e : ℕ) → get_or stop c false ≡ false → Contains (children tree c) e → Contains (entered tree stop c) e
entered_from_open tree stop c e none child = subst (λ b. Contains (cond b [] (children tree c)) e) (sym none) child

-- the last class before one that is reached
last_step : (tree : List (List ℕ)) (stop : List Bool) (c : ℕ) (path : List ℕ) (d : ℕ) → IsPath tree stop c path d
    → (c ≡ d) ⊎ ((b : ℕ) × (get_or stop b false ≡ false) × Contains (children tree b) d × Reaches tree stop c b)
last_step tree stop c [] d is = inl is
last_step tree stop c (e ∷ path) d is =
    elim (last_step tree stop e path d is.1) [
      | inl same ↦
          inr (c, open_from_entered tree stop c e is.0, subst (Contains (children tree c)) same (child_from_entered tree stop c e is.0), reach_here tree stop c c refl)
      | inr found ↦ inr (found.0, found.1, found.2, reach_step tree stop c e found.0 is.0 found.3)
    ]

module _ (classes : List (Option ClassRow)) (tree : List (List ℕ)) (are : AreSubclasses classes tree) (orders : List (List ℕ)) (ordered : AreOrders classes orders)
    (stop : List Bool) (c : ℕ) (list : List ℕ) (made : IsTrue (is_some (row_of classes c))) (walk : IsWalk tree stop c list) where
  -- what is listed lies below the class
  pub listed_below : (d : ℕ) → Contains list d → IsTrue (is_in_order c (order_in classes d))
  listed_below d at = (reached_in_order classes tree are orders ordered c d made).0 (reach_unmarked tree stop c d ((walk.reached d).0 at))

  closed_tree : AreClosedBelow classes stop → AreClosed tree stop
  closed_tree down = λ b d marked child.
      let above : IsTrue (is_some (row_of classes b)) = base_is_made classes orders ordered b d ((are.below b d).0 child) in
      down b d marked ((reached_in_order classes tree are orders ordered b d above).0 (reach_step tree [] b d d child (reach_here tree [] d d refl)))

  pub list_is_below : AreClosedBelow classes stop → IsBelow classes stop c list
  list_is_below down = record {
    unmarked = λ d none.
        let reached = walk_closed tree stop c list walk (closed_tree down) d none in
        let stands = reached_in_order classes tree are orders ordered c d made in (
          (λ at. stands.0 (reached.0 at)),
          (λ is. reached.1 (stands.1 is)),
        );
    marked = λ d _.
        let reached = walk.reached d in (
          (λ at.
              let path = reached.0 at in
              elim (last_step tree stop c path.0 d path.1) [
                | inl same ↦ inl same
                | inr found ↦ inr (found.0, found.1, (are.below found.0 d).0 found.2, (walk.reached found.0).1 found.3)
              ]),
          (λ either. elim either [
            | inl same ↦ reached.1 (reach_here tree stop c d same)
            | inr found ↦
                let entered_here = entered_from_open tree stop found.0 d found.1 ((are.below found.0 d).1 found.2) in
                reached.1 (reach_trans tree stop c found.0 d ((walk.reached found.0).0 found.3) (reach_step tree stop found.0 d d entered_here (reach_here tree stop d d refl)))
          ]),
        );
    unmarked_first = λ prefix suffix d e at other none stands.
        let here : Contains list d = subst (λ l. Contains l d) (sym at) (in_middle prefix d suffix) in
        let there = made_from_reaches classes tree are c d made (reach_unmarked tree stop c d ((walk.reached d).0 here)) in
        let reached = (reached_in_order classes tree are orders ordered d e there).1 stands in
        unmarked_first tree stop list (order_of tree stop c list walk) (closed_tree down) prefix suffix d e at other none reached;
  }
