use Rattle.std.proofs.Common.{◌↔◌, ℕ, List, [], Option, is_some, IsTrue, Contains, subst}
use Rattle.std.proofs.lemmas.Result.{IfOk-weaker}
use Rattle.at_tree.specs.Tree.{Reaches}
use Rattle.at_model.specs.declared.rows.ClassRow.{ClassRow}
use Rattle.at_model.specs.World.{row_of, order_in}
use Rattle.at_model.specs.Step.{is_in_order}
use Rattle.at_types.specs.Subclasses.{AreClosedBelow, IsBelow}
use Rattle.at_types.proofs.SubclassLemmas.{reached_in_order}
use Rattle.at_types.proofs.Marks.{listed_below, list_is_below}
use Rattle.at_types.proofs.classes.Classes.below.Goals as goal

pub returns-clause-unmarked : goal.returns-clause-unmarked
returns-clause-unmarked c =
    let InOrder : List (Option ClassRow) → List ℕ → Type 0 = λ classes list.
    IsTrue (is_some (row_of classes c.args.c)) → (d : ℕ) → Contains list d ↔ IsTrue (is_in_order c.args.c (order_in classes d)) in
    IfOk-weaker c.below.result _ _
    (λ list unmarked none.
    subst (λ classes. InOrder classes list.items) c.self.view_is
    (λ made d.
    let both = reached_in_order c.self.inside.rows.items c.self.inside.subclasses c.self.invariant.subclasses c.self.inside.orders.items c.self.invariant.orders_are c.args.c d made in
    let reached : Contains list.items d ↔ Reaches c.self.inside.subclasses [] c.args.c d = rw c.number.ensures.same at (unmarked none d) in
    (λ at. both.0 (reached.0 at), λ stands. reached.1 (both.1 stands))))
    c.below.ensures.unmarked

pub returns-clause-below : goal.returns-clause-below
returns-clause-below c =
    IfOk-weaker c.below.result _ _
    (λ list walk. subst
    (λ classes. IsTrue (is_some (row_of classes c.args.c)) → (d : ℕ) → Contains list.items d → IsTrue (is_in_order c.args.c (order_in classes d)))
    c.self.view_is
    (λ made. listed_below c.self.inside.rows.items c.self.inside.subclasses c.self.invariant.subclasses c.self.inside.orders.items c.self.invariant.orders_are c.args.stop.now c.args.c list.items
    made (rw c.number.ensures.same at walk)))
    c.below.ensures.walk

pub returns-clause-closed : goal.returns-clause-closed
returns-clause-closed c =
    IfOk-weaker c.below.result _ _
    (λ list walk. subst
    (λ classes. AreClosedBelow classes c.args.stop.now → IsTrue (is_some (row_of classes c.args.c)) → IsBelow classes c.args.stop.now c.args.c list.items)
    c.self.view_is
    (λ down made. list_is_below c.self.inside.rows.items c.self.inside.subclasses c.self.invariant.subclasses c.self.inside.orders.items c.self.invariant.orders_are c.args.stop.now c.args.c list.items
    made (rw c.number.ensures.same at walk) down))
    c.below.ensures.walk
