-- The tree of subclasses and the orders of the classes.
use Rattle.std.proofs.Common.{◌≡◌, ◌∙◌, ◌↔◌, ◌⊎◌, ap, sym, refl, subst, ℕ, zero, suc, inl, inr, length, get_or, List, [], ◌∷◌, Option, Some, None, true, is_some, IsTrue, Contains}
use Rattle.std.proofs.lemmas.Bool.{false≢true}
use Rattle.at_c3.proofs.NumberLemmas.{has, Contains-from_has, has-from_Contains}
use Rattle.at_tree.specs.Tree.{children, IsPath, Reaches}
use Rattle.at_tree.proofs.Paths.{reach_here, reach_step, reach_trans}
use Rattle.at_model.specs.declared.rows.ClassRow.{ClassRow}
use Rattle.at_model.specs.World.{World, row_of, bases_of, order_in, IsBase, IsAboveBy}
use Rattle.at_model.specs.Laws.{IsAbove, IsLinearization}
use Rattle.at_model.specs.Step.{is_in_order}
use Rattle.at_model.specs.StoredOrders.{AreOrders}
use Rattle.at_model.proofs.Orders.{made-from_order}
use Rattle.at_model.proofs.OrderLaws.{no_base, orders_are_linearizations}
use Rattle.at_types.specs.ClassSteps.{world_of}
use Rattle.at_types.specs.Subclasses.{AreSubclasses}

-- Classes that are made

-- a class with a base is made
pub made_from_base : (classes : List (Option ClassRow)) (b d : ℕ) → Contains (bases_of (row_of classes d)) b → IsTrue (is_some (row_of classes d))
made_from_base classes b d base =
    elim (row_of classes d) as (λ r. Contains (bases_of r) b → IsTrue (is_some r)) [
      | None ↦ λ at. absurd (no_base b at)
      | Some row ↦ λ _. refl
    ] base

module _ (classes : List (Option ClassRow)) (orders : List (List ℕ)) (are : AreOrders classes orders) where
  order_is : (d : ℕ) → IsTrue (is_some (row_of classes d)) → IsLinearization (world_of classes) d (get_or orders d [])
  order_is d made = orders_are_linearizations (world_of classes) d (get_or orders d []) (are d made)

  -- a base stands in the order of its class, and is made
  pub base_is_made : (b d : ℕ) → Contains (bases_of (row_of classes d)) b → IsTrue (is_some (row_of classes b))
  base_is_made b d base =
      let made = made_from_base classes b d base in
      let there = ((order_is d made).members b).1 (inr (suc zero, (b, base, inl refl))) in
      let found = (order_is d made).orders_preserved b there in
      made-from_order (suc (length classes)) classes b found.0 found.1

  -- a class above another stands in its order
  pub in_order_from_above : (c d : ℕ) → IsTrue (is_some (row_of classes d)) → ((c ≡ d) ⊎ IsAbove (world_of classes) c d) → has c (get_or orders d []) ≡ true
  in_order_from_above c d made above = has-from_Contains c (get_or orders d []) (((order_is d made).members c).1 above)

  pub above_from_in_order : (c d : ℕ) → IsTrue (is_some (row_of classes d)) → has c (get_or orders d []) ≡ true → (c ≡ d) ⊎ IsAbove (world_of classes) c d
  above_from_in_order c d made there = ((order_is d made).members c).0 (Contains-from_has c (get_or orders d []) there)

-- Paths of the tree

-- a base of the highest class stands above, too
above_top : (n : ℕ) (w : World) (c e d : ℕ) → IsBase w c e → IsAboveBy n w e d → IsAboveBy (suc n) w c d
above_top zero w c e d base above = absurd above
above_top (suc n) w c e d base above = (
  above.0,
  above.1,
  elim above.2 [
    | inl same ↦ inr (c, subst (IsBase w c) same base, inl refl)
    | inr higher ↦ inr (above_top n w c e above.0 base higher)
  ],
)

module _ (classes : List (Option ClassRow)) (tree : List (List ℕ)) (are : AreSubclasses classes tree) where
  -- what is reached is the class or lies below it
  above_from_path : (c : ℕ) (path : List ℕ) (d : ℕ) → IsPath tree [] c path d → (c ≡ d) ⊎ IsAbove (world_of classes) c d
  above_from_path c [] d is = inl is
  above_from_path c (e ∷ path) d is =
      let base : IsBase (world_of classes) c e = (are.below c e).0 is.0 in
      elim (above_from_path e path d is.1) [
        | inl same ↦ inr (suc zero, (c, subst (IsBase (world_of classes) c) same base, inl refl))
        | inr above ↦ inr (suc above.0, above_top above.0 (world_of classes) c e d base above.1)
      ]

  pub above_from_reaches : (c d : ℕ) → Reaches tree [] c d → (c ≡ d) ⊎ IsAbove (world_of classes) c d
  above_from_reaches c d reached = above_from_path c reached.0 d reached.1

  reaches_by : (n c d : ℕ) → IsAboveBy n (world_of classes) c d → Reaches tree [] c d
  reaches_by zero c d above = absurd above
  reaches_by (suc n) c d above =
      let b = above.0 in
      let step : Reaches tree [] b d = reach_step tree [] b d d ((are.below b d).1 above.1) (reach_here tree [] d d refl) in
      elim above.2 [
        | inl same ↦ subst (λ x. Reaches tree [] x d) (sym same) step
        | inr higher ↦ reach_trans tree [] c b d (reaches_by n c b higher) step
      ]

  pub reaches_from_above : (c d : ℕ) → (c ≡ d) ⊎ IsAbove (world_of classes) c d → Reaches tree [] c d
  reaches_from_above c d either =
      elim either [
        | inl same ↦ reach_here tree [] c d same
        | inr above ↦ reaches_by above.0 c d above.1
      ]

  -- what is reached from a class that is made, is made
  made_on_path : (c : ℕ) (path : List ℕ) (d : ℕ) → IsTrue (is_some (row_of classes c)) → IsPath tree [] c path d → IsTrue (is_some (row_of classes d))
  made_on_path c [] d made is = subst (λ x. IsTrue (is_some (row_of classes x))) is made
  made_on_path c (e ∷ path) d made is = made_on_path e path d (made_from_base classes c e ((are.below c e).0 is.0)) is.1

  pub made_from_reaches : (c d : ℕ) → IsTrue (is_some (row_of classes c)) → Reaches tree [] c d → IsTrue (is_some (row_of classes d))
  made_from_reaches c d made reached = made_on_path c reached.0 d made reached.1

  -- a class that isn't made is below no class, and above none
  pub absent_free : (b c : ℕ) → row_of classes c ≡ None → ¬ Contains (children tree b) c
  absent_free b c free at = no_base b (subst (λ bases. Contains bases b) (ap bases_of free) ((are.below b c).0 at))

  module _ (orders : List (List ℕ)) (ordered : AreOrders classes orders) where
    unreached_path : (c : ℕ) (path : List ℕ) (d : ℕ) → row_of classes c ≡ None → IsTrue (is_some (row_of classes d)) → IsPath tree [] c path d → ⊥
    unreached_path c [] d free made is = false≢true (sym (ap is_some free) ∙ subst (λ x. IsTrue (is_some (row_of classes x))) (sym is) made)
    unreached_path c (e ∷ path) d free made is =
        false≢true (sym (ap is_some free) ∙ base_is_made classes orders ordered c e ((are.below c e).0 is.0))

    pub unreached_free : (c d : ℕ) → row_of classes c ≡ None → IsTrue (is_some (row_of classes d)) → ¬ Reaches tree [] c d
    unreached_free c d free made reached = unreached_path c reached.0 d free made reached.1

    -- a class is reached from one that is made exactly where that stands in its order
    pub reached_in_order : (c d : ℕ) → IsTrue (is_some (row_of classes c)) → Reaches tree [] c d ↔ IsTrue (is_in_order c (order_in classes d))
    reached_in_order c d made = (
      (λ reached.
          let there = made_from_reaches c d made reached in
          ap (is_in_order c) (ordered d there) ∙ in_order_from_above classes orders ordered c d there (above_from_reaches c d reached)),
      (λ stands.
          elim (order_in classes d) as (λ r. order_in classes d ≡ r → IsTrue (is_in_order c r) → Reaches tree [] c d) [
            | None ↦ λ _ never. absurd (false≢true never)
            | Some order ↦ λ is at.
                let there = made-from_order (suc (length classes)) classes d order is in
                let same : Some (get_or orders d []) ≡ Some order = sym (ordered d there) ∙ is in
                let e : get_or orders d [] ≡ order = cc in
                reaches_from_above c d (above_from_in_order classes orders ordered c d there (ap (has c) e ∙ at))
          ] refl stands),
    )
