-- Orders once a class has other bases, computed from the stored orders.
use Rattle.std.proofs.Common.{◌≡◌, ◌≢◌, ◌∙◌, ap, sym, refl, subst, ℕ, suc, ◌+◌, ◌<◌, ◌≤◌, ◌==◌, ◌&&◌, ◌||◌, ◌++◌, inl, inr, cond, not, length, get_or, set, List, [], ◌∷◌, map, Option, Some, None, true, false, is_some, IsTrue, arith}
use Rattle.std.specs.List.{list_all, list_any}
use Rattle.std.proofs.lemmas.Bool.{cases_eq, cases_lt, and_parts, or_parts, or_cases, eq-eqb, eqb-true, eqb-false, false≢true}
use Rattle.std.proofs.lemmas.List.{get_or-set_same, get_or-set_other}
use Rattle.at_c3.specs.Merge.{merge_of, order_of_lists}
use Rattle.at_c3.proofs.NumberLemmas.{has}
use Rattle.at_c3.proofs.RunLemmas.{prefixed-some}
use Rattle.at_model.specs.declared.rows.ClassRow.{ClassRow}
use Rattle.at_model.specs.World.{row_of, row_or_empty, order_before, all_orders, merged_order, order_within, order_in}
use Rattle.at_model.specs.Step.{is_in_order, is_empty, rebased}
use Rattle.at_model.specs.StoredOrders.{AreOrders}
use Rattle.at_world.specs.Plain.{order_or_none, order_by}
use Rattle.at_world.specs.Rebasing.{IsNewOrder, AreNewOrders, AreRenewed, due_row}
use Rattle.at_model.proofs.Subsequences.{subsequence-length, subsequence-has}
use Rattle.at_model.proofs.Orders.{parts_of, orders_preserved, order_within-more, made-from_order, not_made, order_begins, rest_order, made_below}
use Rattle.at_model.proofs.NewBases.{order_in-apart, order_by_bases, made-rebased}

-- Stored orders

-- such an order isn't empty
pub stored_order-there : (classes : List (Option ClassRow)) (orders : List (List ℕ)) (d : ℕ) → AreOrders classes orders → IsTrue (is_some (row_of classes d))
    → order_or_none (get_or orders d []) ≡ Some (get_or orders d [])
stored_order-there classes orders d are made =
    let begins = order_begins (suc (length classes)) classes d (get_or orders d []) (are d made) in
    ap order_or_none begins.1 ∙ ap (λ o. Some o) (sym begins.1)

-- the bases of a class that is made are made, and their orders are shorter
pub base_is_shorter : (classes : List (Option ClassRow)) (orders : List (List ℕ)) (d b : ℕ) (row : ClassRow) → AreOrders classes orders → row_of classes d ≡ Some row
    → has b row.bases ≡ true → IsTrue (is_some (row_of classes b)) × (length (get_or orders b []) < length (get_or orders d []))
base_is_shorter classes orders d b row are at base =
    let n = length classes in
    let made = parts_of (order_within n classes) d (row_of classes d) (get_or orders d []) (are d (ap is_some at)) in
    let same : Some made.row ≡ Some row = sym made.at ∙ at in
    let is_row : made.row ≡ row = cc in
    let in_order = (orders_preserved made.orders made.row.bases made.rest made.merged).1 in
    let in_rest : has b made.rest ≡ true = subsequence-has b made.row.bases made.rest in_order (ap (λ (r : ClassRow). has b r.bases) is_row ∙ base) in
    let found = rest_order n classes d b (get_or orders d []) made in_rest in
    let there : IsTrue (is_some (row_of classes b)) = made-from_order n classes b found.0 found.1 in
    let again : Some found.0 ≡ Some (get_or orders b []) = sym (order_within-more n (suc n) classes b found.0 found.1 (omega arith)) ∙ are b there in
    let is_order : found.0 ≡ get_or orders b [] = cc in
    (there, omega (arith, ap length made.whole, ap length is_order, subsequence-length found.0 made.rest found.2))

-- Classes above which the changed class doesn't stand

-- they keep their orders
order-apart : (classes : List (Option ClassRow)) (orders : List (List ℕ)) (c d : ℕ) (row : Option ClassRow) → AreOrders classes orders
    → IsTrue (is_some (row_of classes d)) → has c (get_or orders d []) ≡ false → IsNewOrder (set classes c row) orders d
order-apart classes orders c d row are made apart =
    order_in-apart classes orders c d row are made apart ∙ are d made ∙ sym (stored_order-there classes orders d are made)

-- Orders by the lists of the bases

there_from_list : (list : List ℕ) → is_empty list ≡ false → order_or_none list ≡ Some list
there_from_list [] full = absurd (false≢true (sym full))
there_from_list (c ∷ cs) full = refl

-- where the lists of the bases are their orders, they give the order of the class
pub order_by-right : (changed : List (Option ClassRow)) (orders : List (List ℕ)) (d : ℕ) (row : ClassRow) → row_of changed d ≡ Some row
    → ((b : ℕ) → has b row.bases ≡ true → IsNewOrder changed orders b) → order_in changed d ≡ order_by orders d row.bases
order_by-right changed orders d row at each = order_by_bases changed (λ b. order_or_none (get_or orders b [])) d row at each

all_there : (orders : List (List ℕ)) (bases : List ℕ) → list_any (λ b. is_empty (get_or orders b [])) bases ≡ false
    → all_orders (map (λ b. order_or_none (get_or orders b [])) bases) ≡ Some (map (λ b. get_or orders b []) bases)
all_there orders [] none = refl
all_there orders (b ∷ bases) none =
    let both = or_parts (is_empty (get_or orders b [])) (list_any (λ x. is_empty (get_or orders x [])) bases) none in
    let rest : List (Option (List ℕ)) = map (λ x. order_or_none (get_or orders x [])) bases in
    ap (λ o. all_orders (o ∷ rest)) (there_from_list (get_or orders b []) both.0) ∙ ap (order_before (get_or orders b [])) (all_there orders bases both.1)

one_missing : (orders : List (List ℕ)) (bases : List ℕ) → list_any (λ b. is_empty (get_or orders b [])) bases ≡ true
    → all_orders (map (λ b. order_or_none (get_or orders b [])) bases) ≡ None
one_missing orders [] some = absurd (false≢true some)
one_missing orders (b ∷ bases) some =
    let rest : List (Option (List ℕ)) = map (λ x. order_or_none (get_or orders x [])) bases in
    elim (get_or orders b []) as (λ l. (is_empty l || list_any (λ x. is_empty (get_or orders x [])) bases) ≡ true → all_orders (order_or_none l ∷ rest) ≡ None) [
      | [] ↦ λ _. refl
      | x ∷ xs ↦ λ later. ap (order_before (x ∷ xs)) (one_missing orders bases later)
    ] some

-- what the lists of the bases give, where one of them is empty, where they have no merge, and where they have one
pub order_by-missing : (orders : List (List ℕ)) (c : ℕ) (bases : List ℕ) → list_any (λ b. is_empty (get_or orders b [])) bases ≡ true → order_by orders c bases ≡ None
order_by-missing orders c bases some = ap (merged_order c bases) (one_missing orders bases some)

pub order_by-none : (orders : List (List ℕ)) (c : ℕ) (bases : List ℕ) → list_any (λ b. is_empty (get_or orders b [])) bases ≡ false
    → order_of_lists c bases (map (λ b. get_or orders b []) bases) ≡ None → order_by orders c bases ≡ None
order_by-none orders c bases all none = ap (merged_order c bases) (all_there orders bases all) ∙ none

pub order_by-some : (orders : List (List ℕ)) (c : ℕ) (bases order : List ℕ) → list_any (λ b. is_empty (get_or orders b [])) bases ≡ false
    → order_of_lists c bases (map (λ b. get_or orders b []) bases) ≡ Some order → order_or_none order ≡ order_by orders c bases
order_by-some orders c bases order all is =
    let lists = map (λ b. get_or orders b []) bases in
    let begins = prefixed-some (c ∷ []) (merge_of (lists ++ bases ∷ [])) order is in
    ap order_or_none begins.2 ∙ ap (λ o. Some o) (sym begins.2) ∙ sym (ap (merged_order c bases) (all_there orders bases all) ∙ is)

-- The rounds

apart_base : (classes : List (Option ClassRow)) (was : List (List ℕ)) (c b : ℕ) (bases : List ℕ) → AreOrders classes was
    → list_all (λ x. is_some (row_of classes x)) bases ≡ true → list_any (λ x. is_in_order c (order_in classes x)) bases ≡ false → has b bases ≡ true
    → IsTrue (is_some (row_of classes b)) × (has c (get_or was b []) ≡ false)
apart_base classes was c b [] are made apart at = absurd (false≢true at)
apart_base classes was c b (d ∷ bases) are made apart at =
    let all = and_parts (is_some (row_of classes d)) (list_all (λ x. is_some (row_of classes x)) bases) made in
    let none = or_parts (is_in_order c (order_in classes d)) (list_any (λ x. is_in_order c (order_in classes x)) bases) apart in
    elim (or_cases (d == b) (has b bases) at) [
      | inl here ↦
          let is : d ≡ b = eqb-true d b here in
          subst (λ x. IsTrue (is_some (row_of classes x)) × (has c (get_or was x []) ≡ false)) is (all.0, sym (ap (is_in_order c) (are d all.0)) ∙ none.0)
      | inr later ↦ apart_base classes was c b bases are all.1 none.1 later
    ]

-- before the first round: the new order of c, and the stored orders
pub renewed_first : (classes : List (Option ClassRow)) (was : List (List ℕ)) (c : ℕ) (bases order : List ℕ) → AreOrders classes was
    → list_all (λ x. is_some (row_of classes x)) (c ∷ bases) ≡ true → list_any (λ x. is_in_order c (order_in classes x)) bases ≡ false
    → c < length was → order_or_none order ≡ order_by was c bases
    → AreRenewed (rebased classes c bases) classes was c 0 0 (set was c order)
renewed_first classes was c bases order are made apart room is =
    let row : ClassRow = record (row_or_empty (row_of classes c)) { bases = bases } in
    let changed = rebased classes c bases in
    let all = and_parts (is_some (row_of classes c)) (list_all (λ x. is_some (row_of classes x)) bases) made in
    let each : (b : ℕ) → has b bases ≡ true → IsNewOrder changed was b = λ b at.
    let base = apart_base classes was c b bases are all.1 apart at in order-apart classes was c b (Some row) are base.0 base.1 in
    let subject : IsNewOrder changed (set was c order) c =
    order_by-right changed was c row (get_or-set_same classes c (Some row) None (made_below classes c all.0)) each
    ∙ sym is ∙ ap order_or_none (sym (get_or-set_same was c order [] room)) in
    record {
      subject = subject;
      apart = λ d there alone. elim (cases_eq d c) [
        | inl same ↦ subst (IsNewOrder changed (set was c order)) (sym same) subject
        | inr other ↦ order-apart classes was c d (Some row) are there alone ∙ ap order_or_none (sym (get_or-set_other was c d order [] other))
      ];
      shorter = λ d there short.
          let begins = order_begins (suc (length classes)) classes d (get_or was d []) (are d there) in
          absurd (omega (arith, short, ap length begins.1));
      as_long = λ d there long below. absurd (omega arith);
    }

-- what is open of a class that isn't due is known already
not_due : (changed classes : List (Option ClassRow)) (was : List (List ℕ)) (c long i d : ℕ) (orders : List (List ℕ)) → AreRenewed changed classes was c long i orders
    → due_row classes was c long d ≡ None → IsTrue (is_some (row_of classes d)) → length (get_or was d []) ≡ suc long → IsNewOrder changed orders d
not_due changed classes was c long i d orders so_far none there is_long =
    let order = get_or was d [] in
    elim (d == c) as (λ b. (d == c) ≡ b → cond (not b && (length order == suc long && has c order)) (row_of classes d) None ≡ None → IsNewOrder changed orders d) [
      | true ↦ λ same _. subst (IsNewOrder changed orders) (sym (eqb-true d c same)) so_far.subject
      | false ↦ λ _ other.
          elim (has c order) as (λ b. has c order ≡ b → cond (length order == suc long && b) (row_of classes d) None ≡ None → IsNewOrder changed orders d) [
            | true ↦ λ _ below.
                let is : (length order == suc long) ≡ true = eq-eqb (length order) (suc long) is_long in
                absurd (not_made classes d (ap (λ b. cond (b && true) (row_of classes d) None) (sym is) ∙ below) there)
            | false ↦ λ alone _. so_far.apart d there alone
          ] refl other
    ] refl none

-- a class that isn't due is passed over
pub renewed_skip : (changed classes : List (Option ClassRow)) (was : List (List ℕ)) (c long i : ℕ) (orders : List (List ℕ))
    → AreRenewed changed classes was c long i orders → due_row classes was c long i ≡ None → AreRenewed changed classes was c long (i + 1) orders
renewed_skip changed classes was c long i orders so_far none = record {
  subject = so_far.subject;
  apart = so_far.apart;
  shorter = so_far.shorter;
  as_long = λ d there is_long below. elim (cases_lt d i) [
    | inl before ↦ so_far.as_long d there is_long before
    | inr from ↦
        let same : d ≡ i = omega arith in
        not_due changed classes was c long i d orders so_far (ap (due_row classes was c long) same ∙ none) there is_long
  ];
}

-- what it says of a class that it is due
due_parts : (classes : List (Option ClassRow)) (was : List (List ℕ)) (c long d : ℕ) (row : ClassRow) → due_row classes was c long d ≡ Some row
    → (d ≢ c) × (length (get_or was d []) ≡ suc long) × (row_of classes d ≡ Some row)
due_parts classes was c long d row due =
    let order = get_or was d [] in
    elim (d == c) as (λ b. (d == c) ≡ b → cond (not b && (length order == suc long && has c order)) (row_of classes d) None ≡ Some row
    → (d ≢ c) × (length order ≡ suc long) × (row_of classes d ≡ Some row)) [
      | true ↦ λ _ some. cc
      | false ↦ λ other.
          elim (length order == suc long) as (λ b. (length order == suc long) ≡ b → cond (b && has c order) (row_of classes d) None ≡ Some row
          → (d ≢ c) × (length order ≡ suc long) × (row_of classes d ≡ Some row)) [
            | false ↦ λ _ some. cc
            | true ↦ λ is_long.
                elim (has c order) as (λ b. cond b (row_of classes d) None ≡ Some row → (d ≢ c) × (length order ≡ suc long) × (row_of classes d ≡ Some row)) [
                  | false ↦ λ some. cc
                  | true ↦ λ some. (eqb-false d c other, eqb-true (length order) (suc long) is_long, some)
                ]
          ] refl
    ] refl due

-- a class that is due gets its new order
pub renewed_due : (classes : List (Option ClassRow)) (was : List (List ℕ)) (c long i : ℕ) (bases : List ℕ) (orders : List (List ℕ)) (row : ClassRow) (order : List ℕ)
    → AreOrders classes was → AreRenewed (rebased classes c bases) classes was c long i orders → due_row classes was c long i ≡ Some row → i < length orders
    → order_or_none order ≡ order_by orders i row.bases
    → AreRenewed (rebased classes c bases) classes was c long (i + 1) (set orders i order)
renewed_due classes was c long i bases orders row order are so_far due room is =
    let changed = rebased classes c bases in
    let found = due_parts classes was c long i row due in
    let at : row_of changed i ≡ Some row = get_or-set_other classes c i (Some (record (row_or_empty (row_of classes c)) { bases = bases })) None found.0 ∙ found.2 in
    let each : (b : ℕ) → has b row.bases ≡ true → IsNewOrder changed orders b = λ b base.
    let shorter = base_is_shorter classes was i b row are found.2 base in so_far.shorter b shorter.0 (omega (arith, shorter.1, found.1)) in
    let here : IsNewOrder changed (set orders i order) i =
    order_by-right changed orders i row at each ∙ sym is ∙ ap order_or_none (sym (get_or-set_same orders i order [] room)) in
    let still : (d : ℕ) → IsNewOrder changed orders d → IsNewOrder changed (set orders i order) d = λ d known. elim (cases_eq d i) [
      | inl same ↦ subst (IsNewOrder changed (set orders i order)) (sym same) here
      | inr other ↦ known ∙ ap order_or_none (sym (get_or-set_other orders i d order [] other))
    ] in
    record {
      subject = still c so_far.subject;
      apart = λ d there alone. still d (so_far.apart d there alone);
      shorter = λ d there short. still d (so_far.shorter d there short);
      as_long = λ d there is_long below. elim (cases_lt d i) [
        | inl before ↦ still d (so_far.as_long d there is_long before)
        | inr from ↦ let same : d ≡ i = omega arith in subst (IsNewOrder changed (set orders i order)) (sym same) here
      ];
    }

-- after a round the next begins
pub renewed_round : (changed classes : List (Option ClassRow)) (was : List (List ℕ)) (c long next : ℕ) (orders : List (List ℕ))
    → AreRenewed changed classes was c long next orders → length classes ≤ next → AreRenewed changed classes was c (suc long) 0 orders
renewed_round changed classes was c long next orders so_far all = record {
  subject = so_far.subject;
  apart = so_far.apart;
  shorter = λ d there short. elim (cases_lt (length (get_or was d [])) (suc long)) [
    | inl less ↦ so_far.shorter d there (omega arith)
    | inr from ↦ so_far.as_long d there (omega arith) (let below = made_below classes d there in omega arith)
  ];
  as_long = λ d there is_long below. absurd (omega arith);
}

-- after the last round
pub renewed_all : (classes : List (Option ClassRow)) (was : List (List ℕ)) (c long : ℕ) (bases : List ℕ) (orders : List (List ℕ)) → IsTrue (is_some (row_of classes c))
    → AreRenewed (rebased classes c bases) classes was c long 0 orders → ((i : ℕ) → length (get_or was i []) ≤ long) → AreNewOrders (rebased classes c bases) orders
renewed_all classes was c long bases orders made so_far longest d there =
    so_far.shorter d (sym (made-rebased classes c bases made d) ∙ there) (longest d)
