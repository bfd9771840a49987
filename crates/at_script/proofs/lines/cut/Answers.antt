use Rattle.std.proofs.Common.{◌∙◌, sym}
use Rattle.std.proofs.lemmas.List.{take_rest}
use Rattle.at_script.specs.Lines.{is_blank}
use Rattle.at_script.proofs.Cuts.{cut_at, cut_nowhere}
use Rattle.at_script.proofs.lines.cut.Goals as goal

pub returns-in-Some : goal.returns-in-Some
returns-in-Some c = rw take_rest (cut_at is_blank c.args.bytes.now c.in-Some.i (sym c.first_blank.ensures ∙ c.in-Some.is))

pub returns-in-None : goal.returns-in-None
returns-in-None c = cut_nowhere is_blank c.args.bytes.now (sym c.first_blank.ensures ∙ c.in-None.is)
