use Rattle.std.proofs.Common.{rules}
use Rattle.std.proofs.lemmas.Iterator.{YieldsList-from_slice}
use Rattle.std.proofs.lemmas.Iterator.Search.{position_from_yields_List}
use borrow.Author.Tests.{tests}
use Rattle.at_types.proofs.types.least_free.Goals as goal

pub returns-clause-least : goal.returns-clause-least
returns-clause-least c =
    position_from_yields_List (λ free. free) _ _ _ c.position.ensures.ran (YieldsList-from_slice c.args.numbers.now cc) (λ x b q k. search (rules, tests))
