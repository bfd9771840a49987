use Rattle.std.proofs.Common.{Bool, ◌++◌, subst}
use Rattle.at_section.specs.Sections.{types_lock}
use Rattle.at_section.specs.Surfaces.{IsGiving}
use Rattle.at_section.proofs.Steps.{moves_same}
use Rattle.at_section.proofs.taking.release_types.Goals as goal

pub returns-then-types-clause-giving : goal.returns-then-types-clause-giving
returns-then-types-clause-giving c ls g = c.release.ensures.giving ls (subst (λ (b : Bool). IsGiving (types_lock b ++ ls) c.args.pass.now) c.if-types.true g)

pub returns-else-types-clause-moves : goal.returns-else-types-clause-moves
returns-else-types-clause-moves c ls = moves_same ls c.args.pass.now

pub returns-else-types-clause-giving : goal.returns-else-types-clause-giving
returns-else-types-clause-giving c ls g = subst (λ (b : Bool). IsGiving (types_lock b ++ ls) c.args.pass.now) c.if-types.false g
