use Rattle.std.proofs.Common.{ℕ, ◌++◌, Option, subst}
use Rattle.at_section.specs.Sections.{row_lock}
use Rattle.at_section.specs.Surfaces.{IsGiving}
use Rattle.at_section.proofs.Steps.{moves_same}
use Rattle.at_section.proofs.taking.release_row.Goals as goal

pub returns-in-Some-clause-giving : goal.returns-in-Some-clause-giving
returns-in-Some-clause-giving c ls g = c.release.ensures.giving ls (subst (λ (o : Option ℕ). IsGiving (row_lock o ++ ls) c.args.pass.now) c.in-Some.is g)

pub returns-in_default-clause-moves : goal.returns-in_default-clause-moves
returns-in_default-clause-moves c ls = moves_same ls c.args.pass.now

pub returns-in_default-clause-giving : goal.returns-in_default-clause-giving
returns-in_default-clause-giving c ls g = subst (λ (o : Option ℕ). IsGiving (row_lock o ++ ls) c.args.pass.now) c.in_default.is g
