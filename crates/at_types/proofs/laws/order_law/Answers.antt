use Rattle.std.proofs.Common.{◌≡◌, ◌∙◌, ◌==◌, ◌||◌, ap, sym, arith, suc, length, inl, inr, true}
use Rattle.std.proofs.lemmas.Bool.{or_cases, eqb-true}
use Rattle.at_c3.proofs.NumberLemmas.{has, Contains-from_has, has-from_Contains}
use Rattle.at_model.specs.World.{row_of, order_within}
use Rattle.at_model.proofs.Orders.{parts_of, in_base_order, order_within-more}
use Rattle.at_model.proofs.OrderLaws.{base_from_has}
use Rattle.at_types.proofs.laws.order_law.Goals as goal

pub returns : goal.returns
returns c = λ w k d order is there other.
    let n = length w.classes in
    let made = parts_of (order_within n w.classes) k (row_of w.classes k) order is in
    let within : ((k == d) || has d made.rest) ≡ true = sym (ap (has d) made.whole) ∙ has-from_Contains d order there in
    elim (or_cases (k == d) (has d made.rest) within) [
      | inl here ↦ absurd (other (sym (eqb-true k d here)))
      | inr later ↦
          let found = in_base_order n w.classes k d order made later in (
            found.0,
            found.1,
            base_from_has w found.0 k made.row made.at found.2,
            order_within-more n (suc n) w.classes found.0 found.1 found.3 (omega arith),
            Contains-from_has d found.1 found.5,
          )
    ]
