use Rattle.at_core.proofs.Backing.{joined, stays, nothing, class_backed}
use Rattle.at_core.proofs.laws.backing.Goals as goal

pub returns-clause-joined : goal.returns-clause-joined
returns-clause-joined c = joined

pub returns-clause-stays : goal.returns-clause-stays
returns-clause-stays c = stays

pub returns-clause-nothing : goal.returns-clause-nothing
returns-clause-nothing c = nothing

pub returns-clause-class : goal.returns-clause-class
returns-clause-class c = class_backed
