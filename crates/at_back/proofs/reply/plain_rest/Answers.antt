use Rattle.std.proofs.Common.{◌≡◌, sym, subst}
use Rattle.at_text.specs.ReadLines as read_lines
use Rattle.at_text.specs.declared.words.ReplyWord.{ReplyWord}
use Rattle.at_back.specs.Left.{left}
use Rattle.at_back.proofs.reply.plain_rest.Goals as goal

pub returns-in-Suspended : goal.returns-in-Suspended
returns-in-Suspended c =
    subst (λ (w : ReplyWord). left c.suspended_at.result c.suspended_at.new.text ≡ read_lines.reply_rest c.args.names.now w c.args.text.now) (sym c.in-Suspended.is)
    (c.suspended_at.ensures c.args.names.now)
