use Rattle.std.proofs.Common.{◌∙◌, ap, sym}
use Rattle.at_text.specs.ReadLines.{local_rest, local_at}
use Rattle.at_text.specs.Tables.{local_word, all_local_words}
use Rattle.at_back.specs.Left.{left}
use Rattle.at_back.proofs.Choices.{table_none, table_some}
use Rattle.at_back.proofs.line.local_at.Goals as goal

pub returns-in-Some : goal.returns-in-Some
unfolding local_at
returns-in-Some c =
    c.local_rest.ensures
    ∙ table_some local_word (local_rest c.args.names.now) all_local_words c.args.text.now c.in-Some.word c.local_word_at.new.text (sym c.local_word_at.ensures ∙ ap (λ o. left o c.local_word_at.new.text) c.in-Some.is)

pub returns-in-None : goal.returns-in-None
unfolding local_at
returns-in-None c =
    table_none local_word (local_rest c.args.names.now) all_local_words c.args.text.now (sym c.local_word_at.ensures ∙ ap (λ o. left o c.local_word_at.new.text) c.in-None.is)
