use Rattle.std.proofs.Common.{ap, ◌∙◌}
use Rattle.at_section.proofs.Outside.{outside}
use Rattle.at_section.proofs.tests.second_of.Goals as goal

pub returns-clause-first : goal.returns-clause-first
returns-clause-first g c = (c.split.ensures.same.1, outside c.split.new.pass (record { free = c.split.ensures.out; none = ap (λ x. x.items) c.split.ensures.same.0.notes ∙ c.requires.outside.none }))
