use Rattle.std.proofs.Common.{◌≡◌, sym, subst}
use Rattle.at_text.specs.ReadLines as read_lines
use Rattle.at_text.specs.declared.words.OpWord.{OpWord}
use Rattle.at_back.specs.Left.{left}
use Rattle.at_back.proofs.operation.op_rest.Goals as goal

pub returns-in-ClassOf : goal.returns-in-ClassOf
returns-in-ClassOf c =
    subst (λ (w : OpWord). left c.classof_at.result c.classof_at.new.text ≡ read_lines.op_rest c.args.names.now w c.args.text.now) (sym c.in-ClassOf.is)
    (c.classof_at.ensures c.args.names.now)

pub returns-in-Share : goal.returns-in-Share
returns-in-Share c =
    subst (λ (w : OpWord). left c.share_at.result c.share_at.new.text ≡ read_lines.op_rest c.args.names.now w c.args.text.now) (sym c.in-Share.is)
    (c.share_at.ensures c.args.names.now)

pub returns-in-Begin : goal.returns-in-Begin
returns-in-Begin c =
    subst (λ (w : OpWord). left c.begin_at.result c.begin_at.new.text ≡ read_lines.op_rest c.args.names.now w c.args.text.now) (sym c.in-Begin.is)
    (c.begin_at.ensures c.args.names.now)
