use Rattle.at_model.proofs.OrderLaws.{orders_are_merges, orders_are_unique, orders_are_linearizations}
use Rattle.at_model.proofs.laws.order_laws.Goals as goal

pub returns-clause-merges : goal.returns-clause-merges
returns-clause-merges c = orders_are_merges

pub returns-clause-unique : goal.returns-clause-unique
returns-clause-unique c = orders_are_unique

pub returns-clause-linearization : goal.returns-clause-linearization
returns-clause-linearization c = orders_are_linearizations
