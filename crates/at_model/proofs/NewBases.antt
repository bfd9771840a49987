-- Orders once a class has other bases: those of the classes above which it doesn't stand, and those by the orders of bases.
use Rattle.std.proofs.Common.{◌≡◌, ◌≢◌, ◌∙◌, ap, sym, refl, ℕ, zero, suc, ◌==◌, inl, inr, length, get_or, set, List, [], ◌∷◌, map, Option, Some, None, true, false, is_some, IsTrue}
use Rattle.std.proofs.lemmas.Bool.{cases_eq, or_left, or_right, eq-eqb, false≢true, false_from_ne_true}
use Rattle.std.proofs.lemmas.List.{get_or-set_same, get_or-set_other, length-set}
use Rattle.at_c3.specs.Laws.{IsSubsequence}
use Rattle.at_c3.proofs.NumberLemmas.{has}
use Rattle.at_model.specs.declared.rows.ClassRow.{ClassRow}
use Rattle.at_model.specs.World.{World, row_of, own_of, all_orders, merged_order, order_of_row, order_within, order_in}
use Rattle.at_model.specs.Step.{rebased}
use Rattle.at_model.specs.StoredOrders.{AreOrders}
use Rattle.at_model.proofs.Subsequences.{subsequence-has}
use Rattle.at_model.proofs.Orders.{order_of_row-preserved_parts, has_own_class, made_below}
use Rattle.at_model.proofs.OrderLaws.{orders_are_merges}

-- Classes above which the changed class doesn't stand

order_within-apart : (n : ℕ) (classes : List (Option ClassRow)) (c d : ℕ) (row : Option ClassRow) (order : List ℕ) → order_within n classes d ≡ Some order
    → has c order ≡ false → order_within n (set classes c row) d ≡ Some order
order_within-apart zero classes c d row order is apart = cc
order_within-apart (suc n) classes c d row order is apart =
    let other : d ≢ c = λ e. false≢true (sym apart ∙ ap (λ x. has x order) (sym e) ∙ has_own_class (suc n) classes d order is) in
    let still : (p : List ℕ) → IsSubsequence p order → has c p ≡ false = λ p part. false_from_ne_true (has c p) (λ at. false≢true (sym apart ∙ subsequence-has c p order part at)) in
    ap (order_of_row (order_within n (set classes c row)) d) (get_or-set_other classes c d row None other)
    ∙ order_of_row-preserved_parts (order_within n classes) (order_within n (set classes c row)) d (row_of classes d) order is (λ b p at part _. order_within-apart n classes c b row p at (still p part))

-- they have the orders that they had
pub order_in-apart : (classes : List (Option ClassRow)) (orders : List (List ℕ)) (c d : ℕ) (row : Option ClassRow) → AreOrders classes orders
    → IsTrue (is_some (row_of classes d)) → has c (get_or orders d []) ≡ false → order_in (set classes c row) d ≡ order_in classes d
order_in-apart classes orders c d row are made apart =
    ap (λ n. order_within (suc n) (set classes c row) d) (length-set classes c row)
    ∙ order_within-apart (suc (length classes)) classes c d row (get_or orders d []) (are d made) apart
    ∙ sym (are d made)

-- Orders by those of the bases

map_agree_on : (f g : ℕ → Option (List ℕ)) (bases : List ℕ) → ((b : ℕ) → has b bases ≡ true → f b ≡ g b) → map f bases ≡ map g bases
map_agree_on f g [] same = refl
map_agree_on f g (b ∷ bases) same =
    ap (λ r. r ∷ map f bases) (same b (or_left (b == b) (has b bases) (eq-eqb b b refl)))
    ∙ ap (λ rs. g b ∷ rs) (map_agree_on f g bases (λ d at. same d (or_right (b == d) (has d bases) at)))

-- where these are the orders of the bases, they give the order of the class
pub order_by_bases : (classes : List (Option ClassRow)) (f : ℕ → Option (List ℕ)) (d : ℕ) (row : ClassRow) → row_of classes d ≡ Some row
    → ((b : ℕ) → has b row.bases ≡ true → order_in classes b ≡ f b) → order_in classes d ≡ merged_order d row.bases (all_orders (map f row.bases))
order_by_bases classes f d row at each =
    let w : World = record { classes = classes; objects = []; dicts = [] } in
    orders_are_merges w d ∙ ap (order_of_row (order_in classes) d) at
    ∙ ap (λ rs. merged_order d row.bases (all_orders rs)) (map_agree_on (order_in classes) f row.bases each)

-- Rows

-- no class is made or lost
pub made-rebased : (classes : List (Option ClassRow)) (c : ℕ) (bases : List ℕ) → IsTrue (is_some (row_of classes c)) → (d : ℕ)
    → is_some (row_of (rebased classes c bases) d) ≡ is_some (row_of classes d)
made-rebased classes c bases made d =
    let row : Option ClassRow = Some (record { bases = bases; own = own_of (row_of classes c) }) in
    elim (cases_eq d c) [
      | inl same ↦
          ap (λ x. is_some (row_of (set classes c row) x)) same ∙ ap is_some (get_or-set_same classes c row None (made_below classes c made))
          ∙ sym (ap (λ x. is_some (row_of classes x)) same ∙ made)
      | inr other ↦ ap is_some (get_or-set_other classes c d row None other)
    ]
