-- The making of a class: its order, what it replies, and what is kept then.
use Rattle.std.proofs.Common.{◌≡◌, ◌∙◌, ap, sym, refl, ℕ, ◌<◌, cond, not, get_or, map, List, [], ◌∷◌, Option, Some, None, Result, Ok, Bool, true, false, is_some, IsTrue, arith}
use Rattle.std.specs.List.{list_all}
use Rattle.std.proofs.lemmas.Bool.{and_parts, not-false, false≢true}
use Rattle.at_value.specs.Widths as widths
use Rattle.at_value.specs.declared.operation.Op.TheVariants as ops
use Rattle.at_value.specs.declared.reply.Reply as reply
use Rattle.at_value.specs.declared.reply.Reply.TheVariants as replies
use Rattle.at_model.specs.declared.rows.ClassRow.{ClassRow}
use Rattle.at_model.specs.World.{World, row_of, all_orders, merged_order, order_in}
use Rattle.at_model.specs.Attributes.{Outcome, unchanged}
use Rattle.at_model.specs.Step as steps
use Rattle.at_model.specs.StoredOrders.{AreOrders}
use Rattle.at_model.proofs.OnlyWrites.{step-left}
use Rattle.at_model.proofs.Orders.{HaveOrders, all-from_have}
use Rattle.at_model.proofs.StoredOrders.{defined_order, first_unordered-defined, first_unordered-undefined}
use Rattle.at_types.specs.ClassSteps.{world_of, reply_to, classes_after, plan_reply, new_class}
use Rattle.at_types.specs.Kept.{AreWhole}
use Rattle.at_types.specs.Renewing.{order_now}

-- The order of the class

have_stored : (classes : List (Option ClassRow)) (orders : List (List ℕ)) (bases : List ℕ) → AreOrders classes orders → IsTrue (list_all (λ b. is_some (row_of classes b)) bases)
    → HaveOrders (order_in classes) bases (map (λ b. get_or orders b []) bases)
have_stored classes orders [] are made = tt
have_stored classes orders (b ∷ bases) are made =
    let both = and_parts (is_some (row_of classes b)) (list_all (λ x. is_some (row_of classes x)) bases) made in
    (are b both.0, have_stored classes orders bases are both.1)

-- it is merged from the orders that its bases have
pub new_order-merged : (classes : List (Option ClassRow)) (c : ℕ) (bases : List ℕ) → AreWhole classes → c < widths.classes → row_of classes c ≡ None
    → IsTrue (steps.are_made (world_of classes) bases)
    → order_in (new_class classes c bases) c ≡ merged_order c bases (all_orders (map (order_in classes) bases))
new_order-merged classes c bases whole below free made =
    let orders = whole.stored.0 in
    let are = whole.stored.1 in
    defined_order classes orders c (record { bases = bases; own = [] }) are free (omega (arith, whole.numbered)) made
    ∙ sym (ap (merged_order c bases) (all-from_have (order_in classes) bases (map (λ b. get_or orders b []) bases) (have_stored classes orders bases are made)))

-- the order that was found
pub new_order-found : (classes : List (Option ClassRow)) (c : ℕ) (bases given : List ℕ) (found : Option (List ℕ)) → AreWhole classes → c < widths.classes → row_of classes c ≡ None
    → IsTrue (steps.are_made (world_of classes) bases) → given ≡ bases → found ≡ merged_order c given (all_orders (map (order_now classes []) given))
    → order_in (new_class classes c bases) c ≡ found
new_order-found classes c bases given found whole below free made same is =
    new_order-merged classes c bases whole below free made
    ∙ ap (λ bs. merged_order c bs (all_orders (map (order_in classes) bs))) (sym same) ∙ sym is

-- What it replies

-- the class is made where it has an order
pub if_ordered-done : (classes : List (Option ClassRow)) (c : ℕ) (bases order : List ℕ) → AreWhole classes → row_of classes c ≡ None
    → order_in (new_class classes c bases) c ≡ Some order
    → (let w = world_of classes in replies.Done ≡ (steps.if_ordered w (steps.with_class w c bases)).reply)
if_ordered-done classes c bases order whole free is =
    let w = world_of classes in
    ap (λ r. (steps.unless_unordered w (steps.with_class w c bases) r).reply) (sym (first_unordered-defined w c bases order whole.stored.0 whole.stored.1 free is))

-- and refused where it has none
pub if_ordered-refused : (classes : List (Option ClassRow)) (c : ℕ) (bases : List ℕ) → AreWhole classes → c < widths.classes → row_of classes c ≡ None
    → order_in (new_class classes c bases) c ≡ None
    → (let w = world_of classes in replies.NoOrder c ≡ (steps.if_ordered w (steps.with_class w c bases)).reply)
if_ordered-refused classes c bases whole below free none =
    let w = world_of classes in
    ap (λ r. (steps.unless_unordered w (steps.with_class w c bases) r).reply)
    (sym (first_unordered-undefined w c bases whole.stored.0 whole.stored.1 free (omega (arith, whole.numbered)) none))

-- What a reply tells

-- what is true where the class is made
pub record CanBeMade (classes : List (Option ClassRow)) (c : ℕ) (bases : List ℕ) : Type 0 where
  pub bases_made : IsTrue (steps.are_made (world_of classes) bases)
  pub free : row_of classes c ≡ None
  pub once : steps.has_repeat bases ≡ false
  pub after : classes_after classes (ops.NewClass c bases) ≡ new_class classes c bases

not_some : (row : Option ClassRow) → is_some row ≡ false → row ≡ None
not_some None is = refl
not_some (Some row) is = absurd (false≢true (sym is))

-- a test whose one outcome isn't `Done`
pub other_than : (P : Type 0) (b : Bool) (x y : Outcome) → (x.reply ≡ replies.Done → ⊥) → (cond b x y).reply ≡ replies.Done → (b ≡ false → y.reply ≡ replies.Done → P) → P
other_than P true x y never done then = absurd (never done)
other_than P false x y never done then = then refl done

unless-done : (w changed : World) (r : Option ℕ) → (steps.unless_unordered w changed r).reply ≡ replies.Done → (steps.unless_unordered w changed r).world ≡ changed
unless-done w changed None done = refl
unless-done w changed (Some k) done = cc

after-tests : (w : World) (c : ℕ) (bases : List ℕ) (b1 b2 b3 b4 : Bool) (last : Outcome) → b1 ≡ false → b2 ≡ false → b3 ≡ false → b4 ≡ false
    → (cond b1 (unchanged w replies.NoClass) (cond b2 (unchanged w replies.NameTaken) (cond b3 (unchanged w replies.EmptyBases) (cond b4 (unchanged w replies.Duplicate) last)))) ≡ last
after-tests w c bases b1 b2 b3 b4 last e1 e2 e3 e4 = rw (e1, e2, e3, e4) refl

pub can_be_made : (classes : List (Option ClassRow)) (c : ℕ) (bases : List ℕ) → reply_to classes (ops.NewClass c bases) ≡ replies.Done → CanBeMade classes c bases
can_be_made classes c bases done =
    let w = world_of classes in
    let last = steps.if_ordered w (steps.with_class w c bases) in
    let P = CanBeMade classes c bases in
    other_than P (not (steps.are_made w bases)) _ _ (λ e. cc) done (λ made done1.
    other_than P (steps.is_made w c) _ _ (λ e. cc) done1 (λ free done2.
    other_than P (steps.is_empty bases) _ _ (λ e. cc) done2 (λ some done3.
    other_than P (steps.has_repeat bases) _ _ (λ e. cc) done3 (λ once done4. record {
      bases_made = not-false (steps.are_made w bases) made;
      free = not_some (row_of classes c) free;
      once = once;
      after =
          ap (λ (o : Outcome). o.world.classes) (after-tests w c bases (not (steps.are_made w bases)) (steps.is_made w c) (steps.is_empty bases) (steps.has_repeat bases) last made free some once)
          ∙ ap (λ (v : World). v.classes) (unless-done w (steps.with_class w c bases) (steps.first_unordered (steps.with_class w c bases)) done4);
    }))))

-- A plan

pub planned : (classes : List (Option ClassRow)) (c : ℕ) (bases order : List ℕ) (plan : Result (List ℕ) reply.Reply) → plan ≡ Ok order
    → plan_reply plan ≡ reply_to classes (ops.NewClass c bases) → CanBeMade classes c bases
planned classes c bases order plan is told = can_be_made classes c bases (sym told ∙ ap plan_reply is)

-- what is refused changes no class
pub refused_class : (classes : List (Option ClassRow)) (c : ℕ) (bases : List ℕ) (r : reply.Reply) → r ≡ reply_to classes (ops.NewClass c bases) → steps.is_done r ≡ false
    → classes ≡ classes_after classes (ops.NewClass c bases)
refused_class classes c bases r told refused =
    sym (ap (λ (w : World). w.classes) (step-left (world_of classes) (ops.NewClass c bases) (sym (ap steps.is_done told) ∙ refused)))
