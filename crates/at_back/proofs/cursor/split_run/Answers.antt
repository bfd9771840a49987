use Rattle.std.proofs.Common.{◌∙◌, sym}
use Rattle.std.proofs.lemmas.List.{take_rest}
use Rattle.at_back.proofs.Runs.{run_at, run_nowhere}
use Rattle.at_back.proofs.cursor.split_run.Goals as goal

pub returns-in-Some : goal.returns-in-Some
returns-in-Some c =
    let k = run_at c.args.text.now c.in-Some.length (sym c.end_of_run.ensures ∙ c.in-Some.is) in
    record { word = k.0; rest = rw take_rest k.1 }

pub returns-in-None : goal.returns-in-None
returns-in-None c =
    let k = run_nowhere c.args.text.now (sym c.end_of_run.ensures ∙ c.in-None.is) in
    record { word = k.0; rest = k.1 }
