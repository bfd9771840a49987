use Rattle.at_c3.proofs.RunLemmas.{run_from_merge, merge_from_run}
use Rattle.at_c3.proofs.RelationLemmas.{is_merge-from_run, run_from_is_merge}
use Rattle.at_c3.proofs.laws.merge_is_the_relation.Goals as goal

pub returns : goal.returns
returns c = λ lists merged.
    (λ is. is_merge-from_run merged lists (run_from_merge merged lists is), λ is. merge_from_run merged lists (run_from_is_merge merged lists is))
