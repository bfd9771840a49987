use Rattle.std.proofs.Common.{◌∙◌}
use Rattle.at_script.proofs.KeywordLemmas.{named_long}
use Rattle.at_script.proofs.keyword.keyword_of.Goals as goal

pub returns-in-3 : goal.returns-in-3
returns-in-3 c = c.keyword_of_three.ensures ∙ named_long c.args.word.now 3 c.in-3.is

pub returns-in-4 : goal.returns-in-4
returns-in-4 c = c.keyword_of_four.ensures ∙ named_long c.args.word.now 4 c.in-4.is

pub returns-in-5 : goal.returns-in-5
returns-in-5 c = c.keyword_of_five.ensures ∙ named_long c.args.word.now 5 c.in-5.is

pub returns-in-6 : goal.returns-in-6
returns-in-6 c = c.keyword_of_six.ensures ∙ named_long c.args.word.now 6 c.in-6.is

pub returns-in-7 : goal.returns-in-7
returns-in-7 c = c.keyword_of_seven.ensures ∙ named_long c.args.word.now 7 c.in-7.is

pub returns-in-9 : goal.returns-in-9
returns-in-9 c = c.keyword_of_nine.ensures ∙ named_long c.args.word.now 9 c.in-9.is

pub returns-in-10 : goal.returns-in-10
returns-in-10 c = c.keyword_of_ten.ensures ∙ named_long c.args.word.now 10 c.in-10.is
