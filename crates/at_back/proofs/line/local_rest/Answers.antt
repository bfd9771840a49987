use Rattle.std.proofs.Common.{◌≡◌, sym, subst}
use Rattle.at_text.specs.ReadLines as read_lines
use Rattle.at_text.specs.declared.words.LocalWord.{LocalWord}
use Rattle.at_back.specs.Left.{left}
use Rattle.at_back.proofs.line.local_rest.Goals as goal

pub returns-in-Worn : goal.returns-in-Worn
returns-in-Worn c =
    subst (λ (w : LocalWord). left c.worn_at.result c.worn_at.new.text ≡ read_lines.local_rest c.args.names.now w c.args.text.now) (sym c.in-Worn.is)
    (c.worn_at.ensures c.args.names.now)

pub returns-in-Full : goal.returns-in-Full
returns-in-Full c =
    subst (λ (w : LocalWord). left c.full_at.result c.full_at.new.text ≡ read_lines.local_rest c.args.names.now w c.args.text.now) (sym c.in-Full.is)
    (c.full_at.ensures c.args.names.now)
