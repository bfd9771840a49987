use Rattle.std.proofs.Common.{◌∙◌, sym}
use Rattle.at_c3.proofs.NumberLemmas.{has-from_Contains, Contains-from_has, Any-from_has, has-from_Any}
use Rattle.at_c3.proofs.RunLemmas.{run_from_merge}
use Rattle.at_c3.proofs.OrderLemmas.{has-run, run_is_distinct}
use Rattle.at_c3.proofs.laws.merge_has_each_number_once.Goals as goal

pub returns : goal.returns
returns c = λ lists merged is.
    let run = run_from_merge merged lists is in (
      run_is_distinct merged lists run,
      λ n. (
        λ at. Any-from_has (λ list. list) n lists (sym (has-run n merged lists run) ∙ has-from_Contains n merged at),
        λ some. Contains-from_has n merged (has-run n merged lists run ∙ has-from_Any (λ list. list) n lists some),
      ),
    )
