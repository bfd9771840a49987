use Rattle.std.proofs.Common.{◌∙◌, ap, sym}
use Rattle.at_text.specs.ReadLines.{op_rest, line_op_at}
use Rattle.at_text.specs.Tables.{op_word, all_op_words}
use Rattle.at_back.specs.Left.{left}
use Rattle.at_back.proofs.Choices.{table_none, table_some}
use Rattle.at_back.proofs.operation.line_op_at.Goals as goal

pub returns-in-Some : goal.returns-in-Some
unfolding line_op_at
returns-in-Some c =
    c.op_rest.ensures
    ∙ table_some op_word (op_rest c.args.names.now) all_op_words c.args.text.now c.in-Some.word c.op_word_at.new.text (sym c.op_word_at.ensures ∙ ap (λ o. left o c.op_word_at.new.text) c.in-Some.is)

pub returns-in-None : goal.returns-in-None
unfolding line_op_at
returns-in-None c =
    table_none op_word (op_rest c.args.names.now) all_op_words c.args.text.now (sym c.op_word_at.ensures ∙ ap (λ o. left o c.op_word_at.new.text) c.in-None.is)
