use Rattle.std.proofs.Common.{◌≡◌, ◌∙◌, ap, sym, subst, List, ℕ, Option}
use Rattle.at_text.specs.ReadLines.{reply_rest, line_reply_at}
use Rattle.at_text.specs.Tables.{reply_word, all_reply_words}
use Rattle.at_line.specs.Types.{LineReply}
use Rattle.at_back.specs.Left.{left, found, IfTold}
use Rattle.at_back.proofs.Choices.{table_none, table_some}
use Rattle.at_back.proofs.reply.line_reply_at.Goals as goal

pub returns-in-Some : goal.returns-in-Some
unfolding line_reply_at
returns-in-Some c =
    subst (λ (z : Option (LineReply × List ℕ)). IfTold c.reply_rest.result (left (found c.reply_rest.result) c.reply_rest.new.text ≡ z))
    (table_some reply_word (reply_rest c.args.names.now) all_reply_words c.args.text.now c.in-Some.word c.reply_word_at.new.text (sym c.reply_word_at.ensures ∙ ap (λ o. left o c.reply_word_at.new.text) c.in-Some.is))
    c.reply_rest.ensures

pub returns-in-None : goal.returns-in-None
unfolding line_reply_at
returns-in-None c =
    table_none reply_word (reply_rest c.args.names.now) all_reply_words c.args.text.now (sym c.reply_word_at.ensures ∙ ap (λ o. left o c.reply_word_at.new.text) c.in-None.is)
