use Rattle.at_back.proofs.tests.pieces.script.Goals as goal

pub returns : goal.returns
returns c = c.names_are_told_apart.ensures c.args.text.now c.in_ok-read.field-0 c.in_ok-read.ensures.accepted
