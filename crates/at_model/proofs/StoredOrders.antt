-- Orders that are stored beside their classes, the order of a class that is made, and the first class without an order.
use Rattle.std.proofs.Common.{◌≡◌, ◌≢◌, ◌∙◌, ap, sym, refl, ℕ, zero, suc, ◌+◌, ◌<◌, ◌&&◌, inl, inr, cond, length, get_or, set, List, [], ◌∷◌, map, Option, Some, None, Bool, true, false, is_some, is_none, IsTrue, arith}
use Rattle.std.specs.List.{list_all}
use Rattle.std.specs.Option.{option_map}
use Rattle.std.proofs.lemmas.Bool.{cases_eq, and_parts, false≢true}
use Rattle.std.proofs.lemmas.List.{get_or-set_same, get_or-set_other, length-set}
use Rattle.at_c3.specs.Merge.{order_of_lists}
use Rattle.at_model.specs.declared.rows.ClassRow.{ClassRow}
use Rattle.at_model.specs.World.{World, Map, row_of, merged_order, order_of_row, order_within, order_in, order_of}
use Rattle.at_model.specs.Step.{first_unordered_from, first_unordered, with_class}
use Rattle.at_model.specs.StoredOrders.{AreOrders}
use Rattle.at_model.proofs.Orders.{HaveOrders, all-from_have, HaveSameBases, order_in-same_bases, order_in-fresh, order_within-fresh, order_in-with_room, made_below}

-- The order of a class that is made

have-from_made : (f : ℕ → Option (List ℕ)) (orders : List (List ℕ)) (is_made : ℕ → Bool) → ((b : ℕ) → IsTrue (is_made b) → f b ≡ Some (get_or orders b []))
    → (bases : List ℕ) → IsTrue (list_all is_made bases) → HaveOrders f bases (map (λ b. get_or orders b []) bases)
have-from_made f orders is_made each [] all = tt
have-from_made f orders is_made each (b ∷ bases) all =
    let both = and_parts (is_made b) (list_all is_made bases) all in
    (each b both.0, have-from_made f orders is_made each bases both.1)

-- the orders of the classes that were made, after one more is
others-preserved : (classes : List (Option ClassRow)) (c b : ℕ) (row : Option ClassRow) (order : List ℕ) → row_of classes c ≡ None
    → order_in classes b ≡ Some order → order_within (length (set classes c row)) (set classes c row) b ≡ Some order
others-preserved classes c b row order free is =
    ap (λ n. order_within n (set classes c row) b) (length-set classes c row)
    ∙ order_within-fresh (length classes) classes c b row order free (order_in-with_room classes b order is)

-- the order of a class that is made now, from the stored orders of its bases
pub defined_order : (classes : List (Option ClassRow)) (orders : List (List ℕ)) (c : ℕ) (row : ClassRow) → AreOrders classes orders
    → row_of classes c ≡ None → c < length classes
    → IsTrue (list_all (λ b. is_some (row_of classes b)) row.bases)
    → order_in (set classes c (Some row)) c ≡ order_of_lists c row.bases (map (λ b. get_or orders b []) row.bases)
defined_order classes orders c row are free below made =
    let changed = set classes c (Some row) in
    let f : ℕ → Option (List ℕ) = order_within (length changed) changed in
    let have = have-from_made f orders (λ b. is_some (row_of classes b)) (λ b is. others-preserved classes c b (Some row) (get_or orders b []) free (are b is)) row.bases made in
    ap (order_of_row f c) (get_or-set_same classes c (Some row) None below)
    ∙ ap (merged_order c row.bases) (all-from_have f row.bases (map (λ b. get_or orders b []) row.bases) have)

-- Stored orders

-- they are right where a class is made and its order is put beside it
pub AreOrders-defined : (classes : List (Option ClassRow)) (orders : List (List ℕ)) (c : ℕ) (row : ClassRow) (order : List ℕ)
    → AreOrders classes orders → row_of classes c ≡ None → c < length classes → c < length orders
    → order_in (set classes c (Some row)) c ≡ Some order → AreOrders (set classes c (Some row)) (set orders c order)
AreOrders-defined classes orders c row order are free below room is d made =
    elim (cases_eq d c) [
      | inl same ↦
          ap (order_in (set classes c (Some row))) same ∙ is ∙ ap (λ o. Some o) (sym (ap (λ x. get_or (set orders c order) x []) same ∙ get_or-set_same orders c order [] room))
      | inr other ↦
          let was : IsTrue (is_some (row_of classes d)) = ap is_some (sym (get_or-set_other classes c d (Some row) None other)) ∙ made in
          order_in-fresh classes c d (Some row) (get_or orders d []) free (are d was)
          ∙ ap (λ o. Some o) (sym (get_or-set_other orders c d order [] other))
    ]

pub is_some-from_bases : (r s : Option ClassRow) → option_map (λ row. row.bases) r ≡ option_map (λ row. row.bases) s → is_some r ≡ is_some s
is_some-from_bases None None same = refl
is_some-from_bases None (Some s) same = cc
is_some-from_bases (Some r) None same = cc
is_some-from_bases (Some r) (Some s) same = refl

-- they are right where no class changes its bases
pub AreOrders-same_bases : (cs ds : List (Option ClassRow)) (orders : List (List ℕ)) → HaveSameBases cs ds → length cs ≡ length ds
    → AreOrders cs orders → AreOrders ds orders
AreOrders-same_bases cs ds orders same long are c made =
    sym (order_in-same_bases cs ds c same long) ∙ are c (is_some-from_bases (row_of cs c) (row_of ds c) (same c) ∙ made)

-- other names in a class change no bases
pub same_bases-own : (classes : List (Option ClassRow)) (c : ℕ) (row : ClassRow) (names : Map) → row_of classes c ≡ Some row
    → HaveSameBases classes (set classes c (Some (record row { own = names })))
same_bases-own classes c row names at d =
    elim (cases_eq d c) [
      | inl same ↦
          let below : c < length classes = made_below classes c (ap is_some at) in
          let bases_at : Option ClassRow → Option (List ℕ) = option_map (λ r. r.bases) in
          ap (λ x. bases_at (row_of classes x)) same ∙ ap bases_at at
          ∙ sym (ap (λ x. bases_at (row_of (set classes c (Some (record row { own = names }))) x)) same ∙ ap bases_at (get_or-set_same classes c (Some (record row { own = names })) None below))
      | inr other ↦ sym (ap (option_map (λ r. r.bases)) (get_or-set_other classes c d (Some (record row { own = names })) None other))
    ]

-- The first class without an order

none_from : (w : World) (k : ℕ) (rows : List (Option ClassRow))
    → ((i d : ℕ) → d ≡ k + i → IsTrue (is_some (get_or rows i None)) → is_none (order_of w d) ≡ false) → first_unordered_from w k rows ≡ None
none_from w k [] each = refl
none_from w k (row ∷ rows) each =
    let later = none_from w (suc k) rows (λ i d e made. each (suc i) d (omega arith) made) in
    elim (is_some row) as (λ b. is_some row ≡ b → cond (b && is_none (order_of w k)) (Some k) (first_unordered_from w (suc k) rows) ≡ None) [
      | true ↦ λ made. ap (λ b. cond b (Some k) (first_unordered_from w (suc k) rows)) (each 0 k (omega arith) made) ∙ later
      | false ↦ λ _. later
    ] refl

some_from : (w : World) (k : ℕ) (rows : List (Option ClassRow)) (i c : ℕ) → c ≡ k + i → IsTrue (is_some (get_or rows i None)) → is_none (order_of w c) ≡ true
    → ((j d : ℕ) → d ≡ k + j → j < i → IsTrue (is_some (get_or rows j None)) → is_none (order_of w d) ≡ false) → first_unordered_from w k rows ≡ Some c
some_from w k [] i c at made none before = cc
some_from w k (row ∷ rows) zero c at made none before =
    let e : k ≡ c = omega arith in
    ap (λ b. cond (b && is_none (order_of w k)) (Some k) (first_unordered_from w (suc k) rows)) made
    ∙ ap (λ b. cond b (Some k) (first_unordered_from w (suc k) rows)) (ap (λ x. is_none (order_of w x)) e ∙ none)
    ∙ ap (λ x. Some x) e
some_from w k (row ∷ rows) (suc i) c at made none before =
    let later = some_from w (suc k) rows i c (omega arith) made none (λ j d e less there. before (suc j) d (omega arith) (omega arith) there) in
    elim (is_some row) as (λ b. is_some row ≡ b → cond (b && is_none (order_of w k)) (Some k) (first_unordered_from w (suc k) rows) ≡ Some c) [
      | true ↦ λ there. ap (λ b. cond b (Some k) (first_unordered_from w (suc k) rows)) (before 0 k (omega arith) (omega arith) there) ∙ later
      | false ↦ λ _. later
    ] refl

some_order : (order : Option (List ℕ)) → is_none order ≡ false → (p : List ℕ) × (order ≡ Some p)
some_order None is = absurd (false≢true (sym is))
some_order (Some p) is = (p, refl)

ordered_from : (w : World) (k : ℕ) (rows : List (Option ClassRow)) → first_unordered_from w k rows ≡ None → (i d : ℕ) → d ≡ k + i
    → IsTrue (is_some (get_or rows i None)) → is_none (order_of w d) ≡ false
ordered_from w k [] none i d at made = absurd (false≢true made)
ordered_from w k (row ∷ rows) none zero d at made =
    let e : k ≡ d = omega arith in
    elim (is_none (order_of w k)) as (λ b. is_none (order_of w k) ≡ b → cond (is_some row && b) (Some k) (first_unordered_from w (suc k) rows) ≡ None → is_none (order_of w d) ≡ false) [
      | true ↦ λ _ there. let here : Some k ≡ None = ap (λ b. cond (b && true) (Some k) (first_unordered_from w (suc k) rows)) (sym made) ∙ there in cc
      | false ↦ λ is _. sym (ap (λ x. is_none (order_of w x)) e) ∙ is
    ] refl none
ordered_from w k (row ∷ rows) none (suc i) d at made =
    elim (is_some row && is_none (order_of w k)) as (λ b. cond b (Some k) (first_unordered_from w (suc k) rows) ≡ None → is_none (order_of w d) ≡ false) [
      | true ↦ λ there. cc
      | false ↦ λ there. ordered_from w (suc k) rows there i d (omega arith) made
    ] none

-- there is none where each class that is made has an order
pub first_unordered-none : (w : World) → ((c : ℕ) → IsTrue (is_some (row_of w.classes c)) → (order : List ℕ) × (order_of w c ≡ Some order))
    → first_unordered w ≡ None
first_unordered-none w each =
    none_from w 0 w.classes (λ i d at made.
    let e : d ≡ i = omega arith in
    let found = each d (ap (λ x. is_some (row_of w.classes x)) e ∙ made) in
    ap is_none found.1)

-- where there is none, each class that is made has an order
pub ordered-from_none : (w : World) → first_unordered w ≡ None → (c : ℕ) → IsTrue (is_some (row_of w.classes c))
    → (order : List ℕ) × (order_of w c ≡ Some order)
ordered-from_none w none c made = some_order (order_of w c) (ordered_from w 0 w.classes none c c (omega arith) made)

order_of_others : (w : World) (c : ℕ) (bases : List ℕ) (orders : List (List ℕ)) → AreOrders w.classes orders → row_of w.classes c ≡ None
    → (d : ℕ) → d ≢ c → IsTrue (is_some (row_of (with_class w c bases).classes d)) → order_of (with_class w c bases) d ≡ Some (get_or orders d [])
order_of_others w c bases orders are free d other made =
    let row : Option ClassRow = Some (record { bases = bases; own = [] }) in
    let was : IsTrue (is_some (row_of w.classes d)) = ap is_some (sym (get_or-set_other w.classes c d row None other)) ∙ made in
    order_in-fresh w.classes c d row (get_or orders d []) free (are d was)

-- where a class is made and has an order, each class has one
pub first_unordered-defined : (w : World) (c : ℕ) (bases order : List ℕ) (orders : List (List ℕ)) → AreOrders w.classes orders → row_of w.classes c ≡ None
    → order_of (with_class w c bases) c ≡ Some order → first_unordered (with_class w c bases) ≡ None
first_unordered-defined w c bases order orders are free is =
    first_unordered-none (with_class w c bases) (λ d made.
    elim (cases_eq d c) [
      | inl same ↦ (order, ap (order_of (with_class w c bases)) same ∙ is)
      | inr other ↦ (get_or orders d [], order_of_others w c bases orders are free d other made)
    ])

-- where a class is made and has no order, it is the first, since each other class has one
pub first_unordered-undefined : (w : World) (c : ℕ) (bases : List ℕ) (orders : List (List ℕ)) → AreOrders w.classes orders
    → row_of w.classes c ≡ None → c < length w.classes
    → order_of (with_class w c bases) c ≡ None → first_unordered (with_class w c bases) ≡ Some c
first_unordered-undefined w c bases orders are free below none =
    let row : Option ClassRow = Some (record { bases = bases; own = [] }) in
    let changed = with_class w c bases in
    some_from changed 0 changed.classes c c (omega arith) (ap is_some (get_or-set_same w.classes c row None below)) (ap is_none none)
    (λ j d at less made.
    let e : d ≡ j = omega arith in
    let other : d ≢ c = omega arith in
    ap is_none (order_of_others w c bases orders are free d other (ap (λ x. is_some (row_of changed.classes x)) e ∙ made)))
