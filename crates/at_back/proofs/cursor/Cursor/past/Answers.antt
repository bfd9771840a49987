use Rattle.std.proofs.Common.{◌≡◌, length, drop}
use Rattle.at_back.proofs.Prefixes.{past_there, past_nowhere}
use Rattle.at_back.proofs.cursor.Cursor.past.Goals as goal

pub returns-in-Some-clause-word : goal.returns-in-Some-clause-word
returns-in-Some-clause-word c =
    let k = c.in-Some.ensures.cases in
    let there = past_there c.args.word.now c.self.inside.rest.now k.0 in
    let rest : c.in-Some.rest.now ≡ drop (length c.args.word.now) c.self.inside.rest.now = k.1 in
    let view = c.self.view_is in
    cc

pub returns-in-None-clause-word : goal.returns-in-None-clause-word
returns-in-None-clause-word c =
    let nowhere = past_nowhere c.args.word.now c.self.inside.rest.now c.in-None.ensures.cases in
    let view = c.self.view_is in
    cc
