-- The world in which a class has other bases, by the orders that were computed for it.
use Rattle.std.proofs.Common.{◌≡◌, ◌∙◌, ap, sym, refl, ℕ, suc, ◌+◌, ◌&&◌, cond, length, get_or, List, [], ◌∷◌, Option, Some, None, true, false, is_some, is_none, IsTrue, arith}
use Rattle.std.proofs.lemmas.Bool.{and_parts}
use Rattle.std.proofs.lemmas.List.{length-set}
use Rattle.at_value.specs.declared.reply.Reply.TheVariants as replies
use Rattle.at_value.specs.Widths as widths
use Rattle.at_model.specs.declared.rows.ClassRow.{ClassRow}
use Rattle.at_model.specs.declared.rows.Object.{Object}
use Rattle.at_model.specs.World.{World, Map, row_of, row_or_empty, order_of}
use Rattle.at_model.specs.Attributes.{Outcome}
use Rattle.at_model.specs.Step.{is_made, are_made, is_empty, first_unordered_from, first_unordered, unless_unordered, if_ordered, rebased, with_bases}
use Rattle.at_world.specs.Plain.{PlainState, IsCoherent, order_or_none}
use Rattle.at_world.specs.Rebasing.{AreNewOrders, first_empty}
use Rattle.at_model.proofs.StoredOrders.{ordered-from_none}
use Rattle.at_model.proofs.NewBases.{made-rebased}

-- the class that gets the bases is made
pub subject_made : (w : World) (c : ℕ) (bases : List ℕ) → IsTrue (are_made w (c ∷ bases)) → IsTrue (is_some (row_of w.classes c))
subject_made w c bases made = (and_parts (is_made w c) (are_made w bases) made).0

none_is_empty : (list : List ℕ) → is_none (order_or_none list) ≡ is_empty list
none_is_empty [] = refl
none_is_empty (c ∷ cs) = refl

-- the first class without an order is the first with an empty list
first_same : (w : World) (orders : List (List ℕ)) (k : ℕ) (rows changed : List (Option ClassRow)) → length rows ≡ length changed
    → ((i : ℕ) → is_some (get_or rows i None) ≡ is_some (get_or changed i None))
    → ((i d : ℕ) → d ≡ k + i → IsTrue (is_some (get_or changed i None)) → order_of w d ≡ order_or_none (get_or orders d []))
    → first_unordered_from w k changed ≡ first_empty k rows orders
first_same w orders k [] [] long same each = refl
first_same w orders k [] (now ∷ changed) long same each = absurd (omega arith)
first_same w orders k (row ∷ rows) [] long same each = absurd (omega arith)
first_same w orders k (row ∷ rows) (now ∷ changed) long same each =
    let later = first_same w orders (suc k) rows changed (omega arith) (λ i. same (suc i)) (λ i d at made. each (suc i) d (omega arith) made) in
    let here : is_some row ≡ is_some now = same 0 in
    let list = get_or orders k [] in
    elim (is_some now) as (λ b. is_some now ≡ b → cond (b && is_none (order_of w k)) (Some k) (first_unordered_from w (suc k) changed)
    ≡ cond (is_some row && is_empty list) (Some k) (first_empty (suc k) rows orders)) [
      | false ↦ λ none. later ∙ sym (ap (λ b. cond (b && is_empty list) (Some k) (first_empty (suc k) rows orders)) (here ∙ none))
      | true ↦ λ made.
          ap (λ b. cond b (Some k) (first_unordered_from w (suc k) changed)) (ap is_none (each 0 k (omega arith) made) ∙ none_is_empty list)
          ∙ ap (λ r. cond (is_empty list) (Some k) r) later
          ∙ sym (ap (λ b. cond (b && is_empty list) (Some k) (first_empty (suc k) rows orders)) (here ∙ made))
    ] refl

pub rebased_first : (w : World) (c : ℕ) (bases : List ℕ) (orders : List (List ℕ)) → IsTrue (is_some (row_of w.classes c))
    → AreNewOrders (rebased w.classes c bases) orders → first_unordered (with_bases w c bases) ≡ first_empty 0 w.classes orders
rebased_first w c bases orders made are =
    let changed = rebased w.classes c bases in
    first_same (with_bases w c bases) orders 0 w.classes changed (sym (length-set w.classes c (Some (record (row_or_empty (row_of w.classes c)) { bases = bases }))))
    (λ i. sym (made-rebased w.classes c bases made i))
    (λ i d at there. let e : d ≡ i = omega arith in are d (ap (λ x. is_some (row_of changed x)) e ∙ there))

order_or_none-same : (list order : List ℕ) → order_or_none list ≡ Some order → order ≡ list
order_or_none-same [] order is = cc
order_or_none-same (c ∷ cs) order is = cc

-- with the new classes and orders, where no order is missing
pub IsCoherent-rebased : (classes : List (Option ClassRow)) (was orders : List (List ℕ)) (objects : List Object) (dicts : List Map) (c : ℕ) (bases : List ℕ)
    → IsCoherent classes was objects dicts → IsTrue (is_some (row_of classes c)) → AreNewOrders (rebased classes c bases) orders → length orders ≡ widths.classes
    → first_empty 0 classes orders ≡ None → IsCoherent (rebased classes c bases) orders objects dicts
IsCoherent-rebased classes was orders objects dicts c bases coherent made are long none =
    let w : World = record { classes = classes; objects = objects; dicts = dicts } in
    let all = ordered-from_none (with_bases w c bases) (rebased_first w c bases orders made are ∙ none) in
    record {
      numbered = length-set classes c (Some (record (row_or_empty (row_of classes c)) { bases = bases })) ∙ coherent.numbered;
      ordered = long;
      orders_are = λ d there.
          let found = all d there in
          found.1 ∙ ap (λ o. Some o) (order_or_none-same (get_or orders d []) found.0 (sym (are d there) ∙ found.1));
      few = coherent.few;
      named = coherent.named;
    }

-- a class without an order refuses the change
pub rebase_refused : (s : PlainState) (c k : ℕ) (bases : List ℕ) (orders : List (List ℕ)) → IsTrue (is_some (row_of s.world.classes c))
    → AreNewOrders (rebased s.world.classes c bases) orders → first_empty 0 s.world.classes orders ≡ Some k
    → (replies.NoOrder k ≡ (if_ordered s.world (with_bases s.world c bases)).reply)
    × (s ≡ record { world = (if_ordered s.world (with_bases s.world c bases)).world; place = s.place })
rebase_refused s c k bases orders made are first =
    let outcome = ap (unless_unordered s.world (with_bases s.world c bases)) (rebased_first s.world c bases orders made are ∙ first) in
    let state : World → PlainState = λ w. record { world = w; place = s.place } in
    (ap (λ (o : Outcome). o.reply) (sym outcome), ap (λ (o : Outcome). state o.world) (sym outcome))

-- where each class has an order the change is made
pub rebase_done : (s : PlainState) (c : ℕ) (bases : List ℕ) (orders : List (List ℕ)) → IsTrue (is_some (row_of s.world.classes c))
    → AreNewOrders (rebased s.world.classes c bases) orders → first_empty 0 s.world.classes orders ≡ None
    → (replies.Done ≡ (if_ordered s.world (with_bases s.world c bases)).reply)
    × (let now : PlainState = record { world = with_bases s.world c bases; place = s.place } in
    now ≡ record { world = (if_ordered s.world (with_bases s.world c bases)).world; place = s.place })
rebase_done s c bases orders made are first =
    let outcome = ap (unless_unordered s.world (with_bases s.world c bases)) (rebased_first s.world c bases orders made are ∙ first) in
    let state : World → PlainState = λ w. record { world = w; place = s.place } in
    (ap (λ (o : Outcome). o.reply) (sym outcome), ap (λ (o : Outcome). state o.world) (sym outcome))
