use Rattle.std.proofs.Common.{◌≡◌, ◌↔◌, ℕ, IfOk, IsTrue, is_some, false, All, Contains, subst}
use Rattle.at_model.specs.World.{row_of, order_in}
use Rattle.at_model.specs.Step.{is_in_order}
use Rattle.at_types.specs.Types.{TypesState}
use Rattle.at_types.proofs.types.Types.below.Goals as goal

pub returns-clause-unmarked : goal.returns-clause-unmarked
returns-clause-unmarked c =
    subst
    (λ (s : TypesState). IfOk c.below.result (λ list. All (λ marked. marked ≡ false) c.args.stop.now → IsTrue (is_some (row_of s.classes c.args.c))
    → (d : ℕ) → Contains list.items d ↔ IsTrue (is_in_order c.args.c (order_in s.classes d))))
    c.self.view_is
    c.below.ensures.unmarked
