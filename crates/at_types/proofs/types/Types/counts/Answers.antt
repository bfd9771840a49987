use Rattle.std.proofs.Common.{subst}
use Rattle.at_types.specs.Tags.{AreSingle}
use Rattle.at_types.specs.Types.{TypesState}
use Rattle.at_types.proofs.types.Types.counts.Goals as goal

pub returns-clause-single : goal.returns-clause-single
returns-clause-single c = subst (λ (s : TypesState). AreSingle s.tags) c.self.view_is c.counts.ensures.single
