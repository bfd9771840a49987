use Rattle.at_line.proofs.Histories.{histories_unique, histories_count}
use Rattle.at_line.proofs.Placed.{history_from_placed, placed_from_history}
use Rattle.at_line.proofs.laws.histories_are_unique.Goals as goal

pub returns-clause-unique : goal.returns-clause-unique
returns-clause-unique c = histories_unique

pub returns-clause-count : goal.returns-clause-count
returns-clause-count c = histories_count

pub returns-clause-placed : goal.returns-clause-placed
returns-clause-placed c = λ lines. (history_from_placed lines, λ has. placed_from_history lines has.0 has.1)
