use Rattle.at_types.proofs.KeptLemmas.{kept-opening}
use Rattle.at_types.proofs.classes.Classes.new.Goals as goal

pub invariant_of-result : goal.invariant_of-result
invariant_of-result c = kept-opening _ _ _ c.in_ok-first_rows.ensures c.in_ok-first_orders.ensures c.in_ok-new.ensures.lists
