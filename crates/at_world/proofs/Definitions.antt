-- The invariant of `Plain`, as classes are made and get and lose names.
use Rattle.std.proofs.Common.{◌≡◌, ◌∙◌, ap, sym, refl, ℕ, zero, suc, ◌<◌, ◌-◌, ◌∷◌, ◌++◌, length, get_or, set, take, drop, replicate, List, [], map, Option, Some, None, true, is_some, IsTrue, ◌==◌, lit<, arith}
use Rattle.std.specs.List.{list_all}
use Rattle.std.proofs.lemmas.Bool.{eq-eqb, or_left, or_right, false≢true}
use Rattle.std.proofs.lemmas.List.{take_all, length-set, length-map, map-set, get_or-map, drop_all, append-nil}
use Rattle.smallvec.specs.SmallVec.{SmallVec}
use Rattle.at_c3.specs.Merge.{order_of_lists}
use Rattle.at_c3.proofs.NumberLemmas.{has}
use Rattle.at_value.specs.Classes.{AreClasses}
use Rattle.at_value.specs.declared.reply.Reply.TheVariants as replies
use Rattle.at_value.specs.Widths as widths
use Rattle.at_model.specs.declared.rows.ClassRow.{ClassRow}
use Rattle.at_model.specs.declared.rows.Object.{Object}
use Rattle.at_model.specs.World.{World, Map, row_of, new_row, order_in, order_of, opening}
use Rattle.at_model.specs.Attributes.{Outcome}
use Rattle.at_model.specs.Step.{with_names, with_class, unless_unordered, if_ordered}
use Rattle.at_model.specs.StoredOrders.{AreOrders}
use Rattle.at_world.specs.Plain.{PlainState, lists_of, IsCoherent}
use Rattle.at_model.proofs.Orders.{order_members_made, made_below}
use Rattle.at_model.proofs.StoredOrders.{defined_order, AreOrders-defined, AreOrders-same_bases, same_bases-own, first_unordered-defined, first_unordered-undefined}

-- the order of a class that is made with these bases, by the stored orders
pub gathered_order : (classes : List (Option ClassRow)) (orders lists : List (List ℕ)) (c n : ℕ) (bases items : List ℕ)
    → AreOrders classes orders → row_of classes c ≡ None → c < length classes → IsTrue (list_all (λ b. is_some (row_of classes b)) bases)
    → n ≡ c → items ≡ bases → lists ≡ orders
    → order_in (set classes c (Some (new_row bases))) c ≡ order_of_lists n items (map (λ b. get_or lists b []) items)
gathered_order classes orders lists c n bases items are free below made is_c are_bases are_lists =
    defined_order classes orders c (new_row bases) are free below made ∙ rw (is_c, are_bases, are_lists) refl

-- with the new class and its order
pub IsCoherent-defined : (classes : List (Option ClassRow)) (orders : List (SmallVec ℕ)) (objects : List Object) (dicts : List Map) (c i : ℕ) (bases : List ℕ) (own : Map) (order : SmallVec ℕ)
    → IsCoherent classes (lists_of orders) objects dicts → row_of classes c ≡ None → c < widths.classes
    → order_in (set classes c (Some (new_row bases))) c ≡ Some order.items → i ≡ c → own ≡ []
    → IsCoherent (set classes i (Some (record (new_row bases) { own = own }))) (lists_of (set orders i order)) objects dicts
IsCoherent-defined classes orders objects dicts c i bases own order coherent free below is at empty =
    rw (at, empty, map-set) (record {
      numbered = length-set classes c (Some (new_row bases)) ∙ coherent.numbered;
      ordered = length-set (lists_of orders) c order.items ∙ coherent.ordered;
      orders_are = AreOrders-defined classes (lists_of orders) c (new_row bases) order.items coherent.orders_are free (omega (arith, coherent.numbered)) (omega (arith, coherent.ordered)) is;
      few = coherent.few;
      named = coherent.named;
    })

-- a class that has an order is made, and one that has none is refused
pub made_outcome : (w : World) (orders : List (List ℕ)) (c : ℕ) (bases order : List ℕ) → AreOrders w.classes orders → row_of w.classes c ≡ None → order_of (with_class w c bases) c ≡ Some order
    → if_ordered w (with_class w c bases) ≡ record { reply = replies.Done; world = with_class w c bases }
made_outcome w orders c bases order are free is = ap (unless_unordered w (with_class w c bases)) (first_unordered-defined w c bases order orders are free is)

pub refused_outcome : (w : World) (orders : List (List ℕ)) (c : ℕ) (bases : List ℕ) → AreOrders w.classes orders → row_of w.classes c ≡ None → c < length w.classes → order_of (with_class w c bases) c ≡ None
    → if_ordered w (with_class w c bases) ≡ record { reply = replies.NoOrder c; world = w }
refused_outcome w orders c bases are free below none = ap (unless_unordered w (with_class w c bases)) (first_unordered-undefined w c bases orders are free below none)

-- the same of the state
pub defined_state : (classes : List (Option ClassRow)) (orders : List (List ℕ)) (objects : List Object) (dicts : List Map) (place c i : ℕ) (bases order : List ℕ) (own : Map)
    → AreOrders classes orders → row_of classes c ≡ None → (let w : World = record { classes = classes; objects = objects; dicts = dicts } in
    order_of (with_class w c bases) c ≡ Some order → i ≡ c → own ≡ []
    → (replies.Done ≡ (if_ordered w (with_class w c bases)).reply)
    × (let now : PlainState = record { world = record { classes = set classes i (Some (record (new_row bases) { own = own })); objects = objects; dicts = dicts }; place = place } in
    now ≡ record { world = (if_ordered w (with_class w c bases)).world; place = place }))
defined_state classes orders objects dicts place c i bases order own are free is at empty =
    let w : World = record { classes = classes; objects = objects; dicts = dicts } in
    let outcome = made_outcome w orders c bases order are free is in
    let state : World → PlainState = λ w. record { world = w; place = place } in
    (ap (λ (o : Outcome). o.reply) (sym outcome), rw (at, empty) (ap (λ (o : Outcome). state o.world) (sym outcome)))

pub refused_state : (s : PlainState) (orders : List (List ℕ)) (c : ℕ) (bases : List ℕ) → AreOrders s.world.classes orders → row_of s.world.classes c ≡ None → c < length s.world.classes → order_of (with_class s.world c bases) c ≡ None
    → (replies.NoOrder c ≡ (if_ordered s.world (with_class s.world c bases)).reply) × (s ≡ record { world = (if_ordered s.world (with_class s.world c bases)).world; place = s.place })
refused_state s orders c bases are free below none =
    let outcome = refused_outcome s.world orders c bases are free below none in
    let state : World → PlainState = λ w. record { world = w; place = s.place } in
    (ap (λ (o : Outcome). o.reply) (sym outcome), ap (λ (o : Outcome). state o.world) (sym outcome))

-- names of a class change no order
pub IsCoherent-names : (classes changed : List (Option ClassRow)) (orders : List (List ℕ)) (objects : List Object) (dicts : List Map) (c : ℕ) (names : Map)
    → IsCoherent classes orders objects dicts → changed ≡ with_names classes c (row_of classes c) names → IsCoherent changed orders objects dicts
IsCoherent-names classes changed orders objects dicts c names coherent is =
    rw is (elim (row_of classes c) as (λ row. row_of classes c ≡ row → IsCoherent (with_names classes c row names) orders objects dicts) [
      | None ↦ λ _. coherent
      | Some row ↦ λ at. record {
        numbered = length-set classes c (Some (record row { own = names })) ∙ coherent.numbered;
        ordered = coherent.ordered;
        orders_are = AreOrders-same_bases classes (set classes c (Some (record row { own = names }))) orders (same_bases-own classes c row names at) (sym (length-set classes c (Some (record row { own = names })))) coherent.orders_are;
        few = coherent.few;
        named = coherent.named;
      }
    ] refl)

none_made : (n c : ℕ) → row_of (replicate n None) c ≡ None
none_made zero c = refl
none_made (suc n) zero = refl
none_made (suc n) (suc c) = none_made n c

-- in the opening world the class `object` has itself as its order
opening_orders : AreOrders opening.classes ((0 ∷ []) ∷ replicate (widths.classes - 1) [])
opening_orders zero made = refl
opening_orders (suc c) made = absurd (false≢true (sym (ap is_some (none_made (widths.classes - 1) c)) ∙ made))

pub IsCoherent-opening : (classes : List (Option ClassRow)) (orders : List (List ℕ)) (objects : List Object) (dicts : List Map)
    → classes ≡ opening.classes → orders ≡ (0 ∷ []) ∷ replicate (widths.classes - 1) [] → objects ≡ [] → dicts ≡ [] → IsCoherent classes orders objects dicts
IsCoherent-opening classes orders objects dicts are_classes are_orders no_objects no_dicts =
    rw (are_classes, are_orders, no_objects, no_dicts) (record {
      numbered = refl;
      ordered = refl;
      orders_are = opening_orders;
      few = omega arith;
      named = refl;
    })

-- the numbers of an order are those of classes
are_classes_from_below : (order : List ℕ) → ((d : ℕ) → has d order ≡ true → d < widths.classes) → AreClasses order
are_classes_from_below [] below i = lit< tt
are_classes_from_below (x ∷ xs) below zero = below x (or_left (x == x) (has x xs) (eq-eqb x x refl))
are_classes_from_below (x ∷ xs) below (suc i) = are_classes_from_below xs (λ d at. below d (or_right (x == d) (has d xs) at)) i

pub order_numbers : (classes : List (Option ClassRow)) (c : ℕ) (order : List ℕ) → length classes ≡ widths.classes → order_in classes c ≡ Some order → AreClasses order
order_numbers classes c order long is =
    are_classes_from_below order (λ d at.
    let below = made_below classes d (order_members_made (suc (length classes)) classes c d order is at) in
    omega (arith, below, long))

-- a stored list, read at an index
pub list_at : (orders : List (SmallVec ℕ)) (i : ℕ) (list d : SmallVec ℕ) → i < length orders → list ≡ get_or orders i d → list.items ≡ get_or (lists_of orders) i []
list_at orders i list d within is = ap (λ (l : SmallVec ℕ). l.items) is ∙ sym (get_or-map (λ (l : SmallVec ℕ). l.items) orders i d [] within)

-- lists with the same contents are as many
pub length-lists : (xs ys : List (SmallVec ℕ)) → lists_of xs ≡ lists_of ys → length xs ≡ length ys
length-lists xs ys same = sym (length-map xs (λ (l : SmallVec ℕ). l.items)) ∙ ap length same ∙ length-map ys (λ (l : SmallVec ℕ). l.items)

-- a vector whose slice was written has what the slice has
pub refilled : {X : Type 0} (n : ℕ) (was now : List X) → n ≡ length was → length now ≡ length was → take n (now ++ drop (length now) was) ≡ now
refilled n was now whole same =
    ap (λ rest. take n (now ++ rest)) (drop_all (length now) was (omega (arith, same))) ∙ ap (take n) (append-nil now) ∙ take_all n now (omega (arith, whole, same))
