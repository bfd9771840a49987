-- What is true of the order of every class.
use Rattle.std.proofs.Common.{◌≡◌, ◌∙◌, ap, sym, refl, subst, ℕ, zero, suc, ◌≤◌, ◌==◌, ◌||◌, ◌⊎◌, inl, inr, length, List, [], Option, Some, None, true, is_some, Contains, arith}
use Rattle.std.proofs.lemmas.Bool.{or_cases, or_left, or_right, eqb-true, eq-eqb}
use Rattle.at_c3.specs.Laws.{IsSubsequence}
use Rattle.at_c3.proofs.NumberLemmas.{has, Contains-from_has, has-from_Contains}
use Rattle.at_model.specs.declared.rows.ClassRow.{ClassRow}
use Rattle.at_model.specs.World.{World, row_of, bases_of, order_of_row, order_within, order_of, IsMade, IsBase, IsAboveBy, IsWellFormed}
use Rattle.at_model.specs.Laws.{AreMerges, IsAbove, IsLinearization}
use Rattle.at_model.proofs.Subsequences.{subsequence-more, subsequence-trans, subsequence-has}
use Rattle.at_model.proofs.Orders.{IsMadeOf, parts_of, orders_preserved, order_of_row-preserved, order_within-more, order_within-enough, order_length, order_begins, in_base_order, member_order, rest_order, not_again, order_is_distinct}

-- Orders without a number of steps

-- as many steps as there are classes are enough
one_step_more : (n : ℕ) (classes : List (Option ClassRow)) (c : ℕ) → length classes ≤ n → order_within n classes c ≡ order_within (suc n) classes c
one_step_more n classes c enough =
    elim (order_within (suc n) classes c) as (λ r. order_within (suc n) classes c ≡ r → order_within n classes c ≡ r) [
      | None ↦ λ none.
          elim (order_within n classes c) as (λ r. order_within n classes c ≡ r → r ≡ None) [
            | None ↦ λ _. refl
            | Some order ↦ λ is. sym (order_within-more n (suc n) classes c order is (omega arith)) ∙ none
          ] refl
      | Some order ↦ λ is.
          let short = order_length (suc n) classes c order is in
          order_within-enough (suc n) n classes c order is (omega arith)
    ] refl

pub orders_are_merges : (w : World) → AreMerges w (order_of w)
orders_are_merges w c = one_step_more (suc (length w.classes)) w.classes c (omega arith)

-- orders that are merges are those that steps find
solved : (w : World) (f : ℕ → Option (List ℕ)) → AreMerges w f → (n c : ℕ) (order : List ℕ) → order_within n w.classes c ≡ Some order → f c ≡ Some order
solved w f are zero c order is = cc
solved w f are (suc n) c order is =
    are c ∙ order_of_row-preserved (order_within n w.classes) f c (row_of w.classes c) order is (λ b p at _. solved w f are n b p at)

pub orders_are_unique : (w : World) (f : ℕ → Option (List ℕ)) → IsWellFormed w → AreMerges w f → (c : ℕ) → f c ≡ order_of w c
orders_are_unique w f formed are c =
    elim (row_of w.classes c) as (λ r. row_of w.classes c ≡ r → f c ≡ order_of w c) [
      | None ↦ λ none. are c ∙ ap (order_of_row f c) none ∙ sym (orders_are_merges w c ∙ ap (order_of_row (order_of w) c) none)
      | Some row ↦ λ made.
          let found = formed.ordered c (ap is_some made) in
          solved w f are (suc (length w.classes)) c found.0 found.1 ∙ sym found.1
    ] refl

-- The classes of an order

pub base_from_has : (w : World) (b c : ℕ) (row : ClassRow) → row_of w.classes c ≡ Some row → has b row.bases ≡ true → IsBase w b c
base_from_has w b c row at h = subst (λ bases. Contains bases b) (sym (ap bases_of at)) (Contains-from_has b row.bases h)

pub has-from_base : (w : World) (b c : ℕ) (row : ClassRow) → row_of w.classes c ≡ Some row → IsBase w b c → has b row.bases ≡ true
has-from_base w b c row at base = has-from_Contains b row.bases (subst (λ bases. Contains bases b) (ap bases_of at) base)

-- a class of an order is its first, or stands above it
above_from_member : (n : ℕ) (w : World) (c a : ℕ) (order : List ℕ) → order_within n w.classes c ≡ Some order → has a order ≡ true → (a ≡ c) ⊎ IsAbove w a c
above_from_member zero w c a order is at = cc
above_from_member (suc n) w c a order is at =
    let made = parts_of (order_within n w.classes) c (row_of w.classes c) order is in
    let within : ((c == a) || has a made.rest) ≡ true = sym (ap (has a) made.whole) ∙ at in
    elim (or_cases (c == a) (has a made.rest) within) [
      | inl here ↦ inl (sym (eqb-true c a here))
      | inr later ↦
          let above = in_base_order n w.classes c a order made later in
          let base = base_from_has w above.0 c made.row made.at above.2 in
          elim (above_from_member n w above.0 a above.1 above.3 above.5) [
            | inl same ↦ inr (suc zero, (above.0, base, inl same))
            | inr higher ↦ inr (suc higher.0, (above.0, base, inr higher.1))
          ]
    ]

-- a class above another stands in its order, after the first
pub above_stands : (k : ℕ) (w : World) (a c : ℕ) (order : List ℕ) (made : IsMadeOf (order_within (length w.classes) w.classes) c (row_of w.classes c) order) → IsAboveBy k w a c → has a made.rest ≡ true
above_stands zero w a c order made above = absurd above
above_stands (suc k) w a c order made above =
    let n = length w.classes in
    let b = above.0 in
    let preserved = (orders_preserved made.orders made.row.bases made.rest made.merged).1 in
    let base : has b made.rest ≡ true = subsequence-has b made.row.bases made.rest preserved (has-from_base w b c made.row made.at above.1) in
    elim above.2 [
      | inl same ↦ subst (λ x. has x made.rest ≡ true) (sym same) base
      | inr higher ↦
          let found = rest_order n w.classes c b order made base in
          let inner = parts_of (order_within n w.classes) b (row_of w.classes b) found.0 (order_within-more n (suc n) w.classes b found.0 found.1 (omega arith)) in
          let there : has a found.0 ≡ true = ap (has a) inner.whole ∙ or_right (b == a) (has a inner.rest) (above_stands k w a b found.0 inner higher) in
          subsequence-has a found.0 made.rest found.2 there
    ]

pub no_base : (b : ℕ) → Contains [] b → ⊥
no_base b at = omega (arith, at.1)

-- where each class that is made has an order, none stands above itself
pub acyclic-from_ordered : (w : World) → ((c : ℕ) → IsMade w c → (order : List ℕ) × (order_of w c ≡ Some order)) → (n c : ℕ) → ¬ (IsAboveBy n w c c)
acyclic-from_ordered w ordered zero c above = above
acyclic-from_ordered w ordered (suc n) c above =
    elim (row_of w.classes c) as (λ r. row_of w.classes c ≡ r → ⊥) [
      | None ↦ λ none. no_base above.0 (subst (λ bases. Contains bases above.0) (ap bases_of none) above.1)
      | Some row ↦ λ made.
          let found = ordered c (ap is_some made) in
          let parts = parts_of (order_within (length w.classes) w.classes) c (row_of w.classes c) found.0 found.1 in
          not_again (length w.classes) w.classes c found.0 parts (above_stands (suc n) w c c found.0 parts above)
    ] refl

bases_in_order : (w : World) (c : ℕ) (order : List ℕ) → order_of w c ≡ Some order → IsSubsequence (bases_of (row_of w.classes c)) order
bases_in_order w c order is =
    let made = parts_of (order_within (length w.classes) w.classes) c (row_of w.classes c) order is in
    let preserved = subsequence-more made.row.bases c made.rest (orders_preserved made.orders made.row.bases made.rest made.merged).1 in
    subst (λ bases. IsSubsequence bases order) (sym (ap bases_of made.at)) (subst (IsSubsequence made.row.bases) (sym made.whole) preserved)

pub orders_are_linearizations : (w : World) (c : ℕ) (order : List ℕ) → order_of w c ≡ Some order → IsLinearization w c order
orders_are_linearizations w c order is =
    let n = suc (length w.classes) in
    let made = parts_of (order_within (length w.classes) w.classes) c (row_of w.classes c) order is in
    record {
      first = order_begins n w.classes c order is;
      members = λ a. (
        λ at. above_from_member n w c a order is (has-from_Contains a order at),
        λ either.
            Contains-from_has a order
            (ap (has a) made.whole
            ∙ elim either [
              | inl same ↦ or_left (c == a) (has a made.rest) (eq-eqb c a (sym same))
              | inr above ↦ or_right (c == a) (has a made.rest) (above_stands above.0 w a c order made above.1)
            ]),
      );
      once = order_is_distinct n w.classes c order is;
      bases_preserved = λ a at.
          let found = member_order n w.classes c a order is (has-from_Contains a order at) in
          subsequence-trans (bases_of (row_of w.classes a)) found.0 order (bases_in_order w a found.0 found.1) found.2;
      orders_preserved = λ a at. member_order n w.classes c a order is (has-from_Contains a order at);
    }
