-- Orders: what an order is made of, what leaves it as it is, and which classes stand in it.
use Rattle.std.proofs.Common.{◌≡◌, ◌≢◌, ◌∙◌, ap, sym, refl, subst, ℕ, zero, suc, ◌<◌, ◌≤◌, ◌==◌, ◌||◌, inl, inr, length, set, List, [], ◌∷◌, ◌++◌, map, Option, Some, None, true, false, is_some, IsTrue, nat_eq, arith}
use Rattle.std.specs.List.{list_any, AllByRecursion, IsDistinct}
use Rattle.std.specs.Option.{option_map}
use Rattle.std.proofs.lemmas.Bool.{cases_lt, or_cases, or_left, or_right, eqb-true, eq-eqb, false≢true, false_from_ne_true}
use Rattle.std.proofs.lemmas.List.{get_or-set_other, get_or_past, length-set}
use Rattle.std.proofs.lemmas.List.Folds.{list_any-append}
use Rattle.std.proofs.lemmas.Map.Keys.{IsDistinct-cons}
use Rattle.std.proofs.lemmas.Map.Steps.{length-le_from_distinct_below}
use Rattle.at_c3.specs.Merge.{prefixed, merge_of}
use Rattle.at_c3.specs.Laws.{IsSubsequence}
use Rattle.at_c3.proofs.NumberLemmas.{has, all_differ}
use Rattle.at_c3.proofs.RunLemmas.{run_from_merge, prefixed-some}
use Rattle.at_c3.proofs.OrderLemmas.{has-run, run_is_distinct, run_keeps_orders}
use Rattle.at_model.specs.declared.rows.ClassRow.{ClassRow}
use Rattle.at_model.specs.World.{row_of, order_before, all_orders, merged_order, order_of_row, order_within, order_in}
use Rattle.at_model.proofs.Subsequences.{subsequence-length, subsequence-more, subsequence-self, subsequence-trans}

-- What an order is made of

-- the bases have these orders, each its own
abbrev pub HaveOrders : (ℕ → Option (List ℕ)) → List ℕ → List (List ℕ) → Type 0
HaveOrders f [] [] = Unit {0}
HaveOrders f (b ∷ bases) (order ∷ orders) = (f b ≡ Some order) × HaveOrders f bases orders
HaveOrders f bases orders = ⊥

pub have-from_all : (f : ℕ → Option (List ℕ)) (bases : List ℕ) (orders : List (List ℕ)) → all_orders (map f bases) ≡ Some orders → HaveOrders f bases orders
have-from_all f [] [] is = tt
have-from_all f [] (order ∷ orders) is = cc
have-from_all f (b ∷ bases) orders is =
    elim (f b) as (λ r. f b ≡ r → all_orders (r ∷ map f bases) ≡ Some orders → HaveOrders f (b ∷ bases) orders) [
      | None ↦ λ _ none. cc
      | Some order ↦ λ here some.
          elim (all_orders (map f bases)) as (λ r. all_orders (map f bases) ≡ r → order_before order r ≡ Some orders → HaveOrders f (b ∷ bases) orders) [
            | None ↦ λ _ none. cc
            | Some rest ↦ λ more whole.
                let e : order ∷ rest ≡ orders = cc in
                subst (HaveOrders f (b ∷ bases)) e (here, have-from_all f bases rest more)
          ] refl some
    ] refl is

pub all-from_have : (f : ℕ → Option (List ℕ)) (bases : List ℕ) (orders : List (List ℕ)) → HaveOrders f bases orders → all_orders (map f bases) ≡ Some orders
all-from_have f [] [] have = refl
all-from_have f [] (order ∷ orders) have = absurd have
all-from_have f (b ∷ bases) [] have = absurd have
all-from_have f (b ∷ bases) (order ∷ orders) have =
    ap (λ r. all_orders (r ∷ map f bases)) have.0 ∙ ap (order_before order) (all-from_have f bases orders have.1)

have-preserved : (f g : ℕ → Option (List ℕ)) (P : List ℕ → Type 0) → ((b : ℕ) (order : List ℕ) → f b ≡ Some order → P order → g b ≡ Some order)
    → (bases : List ℕ) (orders : List (List ℕ)) → HaveOrders f bases orders → AllByRecursion P orders → HaveOrders g bases orders
have-preserved f g P preserved [] [] have all = tt
have-preserved f g P preserved [] (order ∷ orders) have all = absurd have
have-preserved f g P preserved (b ∷ bases) [] have all = absurd have
have-preserved f g P preserved (b ∷ bases) (order ∷ orders) have all = (preserved b order have.0 all.0, have-preserved f g P preserved bases orders have.1 all.1)

-- the parts of an order: the row of its class, the orders of the bases, and their merge with the list of bases
pub record IsMadeOf (f : ℕ → Option (List ℕ)) (c : ℕ) (row_there : Option ClassRow) (order : List ℕ) : Type 0 where
  pub row : ClassRow
  pub orders : List (List ℕ)
  pub rest : List ℕ
  pub at : row_there ≡ Some row
  pub have : HaveOrders f row.bases orders
  pub merged : merge_of (orders ++ row.bases ∷ []) ≡ Some rest
  pub whole : order ≡ c ∷ rest

pub parts_of : (f : ℕ → Option (List ℕ)) (c : ℕ) (row_there : Option ClassRow) (order : List ℕ) → order_of_row f c row_there ≡ Some order
    → IsMadeOf f c row_there order
parts_of f c None order is = cc
parts_of f c (Some row) order is =
    elim (all_orders (map f row.bases)) as (λ r. all_orders (map f row.bases) ≡ r → merged_order c row.bases r ≡ Some order → IsMadeOf f c (Some row) order) [
      | None ↦ λ _ none. cc
      | Some orders ↦ λ all whole.
          let found = prefixed-some (c ∷ []) (merge_of (orders ++ row.bases ∷ [])) order whole in
          record { row = row; orders = orders; rest = found.0; at = refl; have = have-from_all f row.bases orders all; merged = found.1; whole = found.2 }
    ] refl is

pub whole_of : (f : ℕ → Option (List ℕ)) (c : ℕ) (row_there : Option ClassRow) (order : List ℕ) → IsMadeOf f c row_there order
    → order_of_row f c row_there ≡ Some order
whole_of f c row_there order made =
    ap (order_of_row f c) made.at
    ∙ ap (merged_order c made.row.bases) (all-from_have f made.row.bases made.orders made.have)
    ∙ ap (prefixed (c ∷ [])) made.merged
    ∙ ap (λ o. Some o) (sym made.whole)

all-append : (P : List ℕ → Type 0) (xs ys : List (List ℕ)) → AllByRecursion P (xs ++ ys) → AllByRecursion P xs × AllByRecursion P ys
all-append P [] ys all = (tt, all)
all-append P (x ∷ xs) ys all = let rest = all-append P xs ys all.1 in ((all.0, rest.0), rest.1)

-- the merge preserves the order of each base's order, and of the list of bases
pub orders_preserved : (orders : List (List ℕ)) (bases rest : List ℕ) → merge_of (orders ++ bases ∷ []) ≡ Some rest
    → AllByRecursion (λ order. IsSubsequence order rest) orders × IsSubsequence bases rest
orders_preserved orders bases rest merged =
    let both = all-append (λ order. IsSubsequence order rest) orders (bases ∷ []) (run_keeps_orders rest (orders ++ bases ∷ []) (run_from_merge rest (orders ++ bases ∷ []) merged)) in
    (both.0, both.1.0)

-- What leaves an order as it is

-- the orders of bases that are parts of the order decide, and they are shorter
pub order_of_row-preserved_parts : (f g : ℕ → Option (List ℕ)) (c : ℕ) (row_there : Option ClassRow) (order : List ℕ) → order_of_row f c row_there ≡ Some order
    → ((b : ℕ) (p : List ℕ) → f b ≡ Some p → IsSubsequence p order → length p < length order → g b ≡ Some p) → order_of_row g c row_there ≡ Some order
order_of_row-preserved_parts f g c row_there order is preserved =
    let made = parts_of f c row_there order is in
    let longer : length order ≡ suc (length made.rest) = ap length made.whole in
    let part_of : (p : List ℕ) → IsSubsequence p made.rest → IsSubsequence p order = λ p part. subst (IsSubsequence p) (sym made.whole) (subsequence-more p c made.rest part) in
    let shorter : (p : List ℕ) → IsSubsequence p made.rest → length p < length order = λ p part. omega (arith, longer, subsequence-length p made.rest part) in
    let preserves : (b : ℕ) (p : List ℕ) → f b ≡ Some p → IsSubsequence p made.rest → g b ≡ Some p = λ b p at part. preserved b p at (part_of p part) (shorter p part) in
    whole_of g c row_there order (record {
      row = made.row;
      orders = made.orders;
      rest = made.rest;
      at = made.at;
      have = have-preserved f g (λ p. IsSubsequence p made.rest) preserves made.row.bases made.orders made.have (orders_preserved made.orders made.row.bases made.rest made.merged).0;
      merged = made.merged;
      whole = made.whole;
    })

-- the orders of bases that are shorter decide
pub order_of_row-preserved : (f g : ℕ → Option (List ℕ)) (c : ℕ) (row_there : Option ClassRow) (order : List ℕ) → order_of_row f c row_there ≡ Some order
    → ((b : ℕ) (p : List ℕ) → f b ≡ Some p → length p < length order → g b ≡ Some p) → order_of_row g c row_there ≡ Some order
order_of_row-preserved f g c row_there order is preserved = order_of_row-preserved_parts f g c row_there order is (λ b p at _ shorter. preserved b p at shorter)

-- more steps than are enough change nothing
pub order_within-more : (n m : ℕ) (classes : List (Option ClassRow)) (c : ℕ) (order : List ℕ) → order_within n classes c ≡ Some order
    → n ≤ m → order_within m classes c ≡ Some order
order_within-more zero m classes c order is le = cc
order_within-more (suc n) zero classes c order is le = absurd (omega arith)
order_within-more (suc n) (suc m) classes c order is le =
    order_of_row-preserved (order_within n classes) (order_within m classes) c (row_of classes c) order is (λ b p at _. order_within-more n m classes b p at (omega arith))

-- as many steps as the order has classes are enough
pub order_within-enough : (n m : ℕ) (classes : List (Option ClassRow)) (c : ℕ) (order : List ℕ) → order_within n classes c ≡ Some order
    → length order ≤ m → order_within m classes c ≡ Some order
order_within-enough zero m classes c order is le = cc
order_within-enough (suc n) zero classes c order is le =
    let longer = ap length (parts_of (order_within n classes) c (row_of classes c) order is).whole in absurd (omega (arith, longer))
order_within-enough (suc n) (suc m) classes c order is le =
    order_of_row-preserved (order_within n classes) (order_within m classes) c (row_of classes c) order is (λ b p at shorter. order_within-enough n m classes b p at (omega arith))

bases_decide : (f : ℕ → Option (List ℕ)) (c : ℕ) (r s : Option ClassRow) → option_map (λ row. row.bases) r ≡ option_map (λ row. row.bases) s
    → order_of_row f c r ≡ order_of_row f c s
bases_decide f c None None same = refl
bases_decide f c None (Some s) same = cc
bases_decide f c (Some r) None same = cc
bases_decide f c (Some r) (Some s) same = let e : r.bases ≡ s.bases = cc in ap (λ bases. merged_order c bases (all_orders (map f bases))) e

map_agree : (f g : ℕ → Option (List ℕ)) → ((b : ℕ) → f b ≡ g b) → (bases : List ℕ) → map f bases ≡ map g bases
map_agree f g same [] = refl
map_agree f g same (b ∷ bases) = ap (λ r. r ∷ map f bases) (same b) ∙ ap (λ rs. g b ∷ rs) (map_agree f g same bases)

orders_decide : (f g : ℕ → Option (List ℕ)) → ((b : ℕ) → f b ≡ g b) → (c : ℕ) (r : Option ClassRow) → order_of_row f c r ≡ order_of_row g c r
orders_decide f g same c None = refl
orders_decide f g same c (Some row) = ap (λ rs. merged_order c row.bases (all_orders rs)) (map_agree f g same row.bases)

-- the same classes are made, with the same bases
abbrev pub HaveSameBases : List (Option ClassRow) → List (Option ClassRow) → Type 0
HaveSameBases cs ds = (c : ℕ) → option_map (λ row. row.bases) (row_of cs c) ≡ option_map (λ row. row.bases) (row_of ds c)

-- the bases alone decide
pub order_within-same_bases : (n : ℕ) (cs ds : List (Option ClassRow)) (c : ℕ) → HaveSameBases cs ds → order_within n cs c ≡ order_within n ds c
order_within-same_bases zero cs ds c same = refl
order_within-same_bases (suc n) cs ds c same =
    orders_decide (order_within n cs) (order_within n ds) (λ b. order_within-same_bases n cs ds b same) c (row_of cs c)
    ∙ bases_decide (order_within n ds) c (row_of cs c) (row_of ds c) (same c)

pub order_in-same_bases : (cs ds : List (Option ClassRow)) (c : ℕ) → HaveSameBases cs ds → length cs ≡ length ds → order_in cs c ≡ order_in ds c
order_in-same_bases cs ds c same long =
    order_within-same_bases (suc (length cs)) cs ds c same ∙ ap (λ n. order_within (suc n) ds c) long

-- a class that has an order is made
pub made-from_order : (n : ℕ) (classes : List (Option ClassRow)) (c : ℕ) (order : List ℕ) → order_within n classes c ≡ Some order
    → IsTrue (is_some (row_of classes c))
made-from_order zero classes c order is = cc
made-from_order (suc n) classes c order is =
    let made = parts_of (order_within n classes) c (row_of classes c) order is in
    ap is_some made.at

pub not_made : (classes : List (Option ClassRow)) (c : ℕ) → row_of classes c ≡ None → IsTrue (is_some (row_of classes c)) → ⊥
not_made classes c none is = false≢true (sym (ap is_some none) ∙ is)

-- a class that wasn't made changes no order
pub order_within-fresh : (n : ℕ) (classes : List (Option ClassRow)) (c d : ℕ) (row : Option ClassRow) (order : List ℕ)
    → row_of classes c ≡ None → order_within n classes d ≡ Some order → order_within n (set classes c row) d ≡ Some order
order_within-fresh zero classes c d row order none is = cc
order_within-fresh (suc n) classes c d row order none is =
    let made = made-from_order (suc n) classes d order is in
    let other : d ≢ c = λ e. not_made classes c none (subst (λ x. IsTrue (is_some (row_of classes x))) e made) in
    ap (order_of_row (order_within n (set classes c row)) d) (get_or-set_other classes c d row None other)
    ∙ order_of_row-preserved (order_within n classes) (order_within n (set classes c row)) d (row_of classes d) order is (λ b p at _. order_within-fresh n classes c b row p none at)

pub order_in-fresh : (classes : List (Option ClassRow)) (c d : ℕ) (row : Option ClassRow) (order : List ℕ) → row_of classes c ≡ None
    → order_in classes d ≡ Some order → order_in (set classes c row) d ≡ Some order
order_in-fresh classes c d row order none is =
    ap (λ n. order_within (suc n) (set classes c row) d) (length-set classes c row) ∙ order_within-fresh (suc (length classes)) classes c d row order none is

-- The classes of an order

-- an order begins with its class
pub order_begins : (n : ℕ) (classes : List (Option ClassRow)) (c : ℕ) (order : List ℕ) → order_within n classes c ≡ Some order
    → (rest : List ℕ) × (order ≡ c ∷ rest)
order_begins zero classes c order is = cc
order_begins (suc n) classes c order is =
    let made = parts_of (order_within n classes) c (row_of classes c) order is in
    (made.rest, made.whole)

-- and has it
pub has_own_class : (n : ℕ) (classes : List (Option ClassRow)) (c : ℕ) (order : List ℕ) → order_within n classes c ≡ Some order → has c order ≡ true
has_own_class n classes c order is =
    let begins = order_begins n classes c order is in
    ap (has c) begins.1 ∙ or_left (c == c) (has c begins.0) (eq-eqb c c refl)

-- a base stands in the order of some base, its own
base_stands : (n : ℕ) (classes : List (Option ClassRow)) (d : ℕ) (bases : List ℕ) (orders : List (List ℕ))
    → HaveOrders (order_within n classes) bases orders → has d bases ≡ true → list_any (has d) orders ≡ true
base_stands n classes d [] [] have at = absurd (false≢true at)
base_stands n classes d [] (order ∷ orders) have at = absurd have
base_stands n classes d (b ∷ bases) [] have at = absurd have
base_stands n classes d (b ∷ bases) (order ∷ orders) have at =
    elim (or_cases (b == d) (has d bases) at) [
      | inl here ↦ or_left (has d order) (list_any (has d) orders) (subst (λ x. has x order ≡ true) (eqb-true b d here) (has_own_class n classes b order have.0))
      | inr later ↦ or_right (has d order) (list_any (has d) orders) (base_stands n classes d bases orders have.1 later)
    ]

-- the base in whose order the class stands
stands_above : (f : ℕ → Option (List ℕ)) (P : List ℕ → Type 0) (d : ℕ) (bases : List ℕ) (orders : List (List ℕ)) → HaveOrders f bases orders
    → AllByRecursion P orders → list_any (has d) orders ≡ true
    → (b : ℕ) × (order : List ℕ) × (has b bases ≡ true) × (f b ≡ Some order) × P order × (has d order ≡ true)
stands_above f P d [] [] have all at = absurd (false≢true at)
stands_above f P d [] (order ∷ orders) have all at = absurd have
stands_above f P d (b ∷ bases) [] have all at = absurd have
stands_above f P d (b ∷ bases) (order ∷ orders) have all at =
    elim (or_cases (has d order) (list_any (has d) orders) at) [
      | inl here ↦ (b, order, or_left (b == b) (has b bases) (eq-eqb b b refl), have.0, all.0, here)
      | inr later ↦
          let found = stands_above f P d bases orders have.1 all.1 later in
          (found.0, found.1, or_right (b == found.0) (has found.0 bases) found.2, found.3, found.4, found.5)
    ]

-- what stands in the orders or among the bases stands in the orders
in_some_order : (n : ℕ) (classes : List (Option ClassRow)) (d : ℕ) (bases : List ℕ) (orders : List (List ℕ))
    → HaveOrders (order_within n classes) bases orders → list_any (has d) (orders ++ bases ∷ []) ≡ true → list_any (has d) orders ≡ true
in_some_order n classes d bases orders have somewhere =
    elim (or_cases (list_any (has d) orders) (list_any (has d) (bases ∷ [])) (sym (list_any-append (has d) orders (bases ∷ [])) ∙ somewhere)) [
      | inl here ↦ here
      | inr there ↦
          elim (or_cases (has d bases) false there) [
            | inl base ↦ base_stands n classes d bases orders have base
            | inr never ↦ absurd (false≢true never)
          ]
    ]

-- A class after the first stands in the order of a base, and that order is preserved.
pub in_base_order : (n : ℕ) (classes : List (Option ClassRow)) (c d : ℕ) (order : List ℕ) (made : IsMadeOf (order_within n classes) c (row_of classes c) order) → has d made.rest ≡ true
    → (b : ℕ) × (p : List ℕ) × (has b made.row.bases ≡ true) × (order_within n classes b ≡ Some p) × IsSubsequence p made.rest × (has d p ≡ true)
in_base_order n classes c d order made at =
    let lists = made.orders ++ made.row.bases ∷ [] in
    let somewhere : list_any (has d) lists ≡ true = sym (has-run d made.rest lists (run_from_merge made.rest lists made.merged)) ∙ at in
    let preserved = orders_preserved made.orders made.row.bases made.rest made.merged in
    let there = in_some_order n classes d made.row.bases made.orders made.have somewhere in
    stands_above (order_within n classes) (λ p. IsSubsequence p made.rest) d made.row.bases made.orders made.have preserved.0 there

-- Each class of an order has an order itself, which is a part of that order.
pub member_order : (n : ℕ) (classes : List (Option ClassRow)) (c d : ℕ) (order : List ℕ) → order_within n classes c ≡ Some order → has d order ≡ true
    → (p : List ℕ) × (order_within n classes d ≡ Some p) × IsSubsequence p order
member_order zero classes c d order is at = cc
member_order (suc n) classes c d order is at =
    let made = parts_of (order_within n classes) c (row_of classes c) order is in
    let within : ((c == d) || has d made.rest) ≡ true = sym (ap (has d) made.whole) ∙ at in
    elim (or_cases (c == d) (has d made.rest) within) [
      | inl here ↦ (order, subst (λ x. order_within (suc n) classes x ≡ Some order) (eqb-true c d here) is, subsequence-self order)
      | inr later ↦
          let above = in_base_order n classes c d order made later in
          let found = member_order n classes above.0 d above.1 above.3 above.5 in (
            found.0,
            order_within-more n (suc n) classes d found.0 found.1 (omega arith),
            subst (IsSubsequence found.0) (sym made.whole) (subsequence-more found.0 c made.rest (subsequence-trans found.0 above.1 made.rest found.2 above.4)),
          )
    ]

-- the order of a class after the first is a part of what stands there
pub rest_order : (n : ℕ) (classes : List (Option ClassRow)) (c d : ℕ) (order : List ℕ) (made : IsMadeOf (order_within n classes) c (row_of classes c) order) → has d made.rest ≡ true
    → (p : List ℕ) × (order_within n classes d ≡ Some p) × IsSubsequence p made.rest
rest_order n classes c d order made at =
    let above = in_base_order n classes c d order made at in
    let found = member_order n classes above.0 d above.1 above.3 above.5 in
    (found.0, found.1, subsequence-trans found.0 above.1 made.rest found.2 above.4)

-- a class doesn't stand after itself
pub not_again : (n : ℕ) (classes : List (Option ClassRow)) (c : ℕ) (order : List ℕ) (made : IsMadeOf (order_within n classes) c (row_of classes c) order) → has c made.rest ≡ true → ⊥
not_again n classes c order made at =
    let again = rest_order n classes c c order made at in
    let same : Some again.0 ≡ Some order = sym (order_within-more n (suc n) classes c again.0 again.1 (omega arith)) ∙ whole_of (order_within n classes) c (row_of classes c) order made in
    let e : again.0 ≡ order = cc in
    omega (arith, ap length made.whole, ap length e, subsequence-length again.0 made.rest again.2)

-- an order has each class once
pub order_is_distinct : (n : ℕ) (classes : List (Option ClassRow)) (c : ℕ) (order : List ℕ) → order_within n classes c ≡ Some order → IsDistinct nat_eq order
order_is_distinct zero classes c order is = cc
order_is_distinct (suc n) classes c order is =
    let made = parts_of (order_within n classes) c (row_of classes c) order is in
    let alone : has c made.rest ≡ false = false_from_ne_true (has c made.rest) (not_again n classes c order made) in
    let lists = made.orders ++ made.row.bases ∷ [] in
    subst (IsDistinct nat_eq) (sym made.whole)
    (IsDistinct-cons nat_eq c made.rest (all_differ c made.rest alone) (run_is_distinct made.rest lists (run_from_merge made.rest lists made.merged)))

-- the classes of an order are made
pub order_members_made : (n : ℕ) (classes : List (Option ClassRow)) (c d : ℕ) (order : List ℕ) → order_within n classes c ≡ Some order
    → has d order ≡ true → IsTrue (is_some (row_of classes d))
order_members_made n classes c d order is at =
    let found = member_order n classes c d order is at in
    made-from_order n classes d found.0 found.1

pub made_below : (classes : List (Option ClassRow)) (c : ℕ) → IsTrue (is_some (row_of classes c)) → c < length classes
made_below classes c made =
    elim (cases_lt c (length classes)) [
      | inl below ↦ below
      | inr past ↦ absurd (not_made classes c (get_or_past classes c None past) made)
    ]

is_member_has : (d : ℕ) (order : List ℕ) → list_any (nat_eq d) order ≡ has d order
is_member_has d [] = refl
is_member_has d (c ∷ order) = grind arith

-- an order has no more classes than there are
pub order_length : (n : ℕ) (classes : List (Option ClassRow)) (c : ℕ) (order : List ℕ) → order_within n classes c ≡ Some order → length order ≤ length classes
order_length n classes c order is =
    length-le_from_distinct_below order (length classes) (order_is_distinct n classes c order is)
    (λ d at. made_below classes d (order_members_made n classes c d order is (sym (is_member_has d order) ∙ at)))

-- one step fewer than an order may take is enough
pub order_in-with_room : (classes : List (Option ClassRow)) (c : ℕ) (order : List ℕ) → order_in classes c ≡ Some order
    → order_within (length classes) classes c ≡ Some order
order_in-with_room classes c order is =
    order_within-enough (suc (length classes)) (length classes) classes c order is (order_length (suc (length classes)) classes c order is)
