use Rattle.std.proofs.Common.{◌∙◌, ap, sym, Some}
use Rattle.at_text.specs.ReadValues.{classes_at}
use Rattle.at_back.specs.Left.{left}
use Rattle.at_back.proofs.Items.{onto}
use Rattle.at_back.proofs.ClassItems.{shorter, class_first, class_wrong, classes_ended}
use Rattle.at_back.proofs.reply.classes_at.Goals as goal

pub returns-in_default : goal.returns-in_default
returns-in_default c =
    sym (class_wrong c.args.names.now c.loop-text.classes.items c.loop-text.text (sym c.begins_item.ensures ∙ c.loop-text-test.true)
    (sym c.class_item_at.ensures ∙ ap (λ o. left o c.class_item_at.new.text) c.in_default.is))
    ∙ c.loop-text.invariant

pub loop-text-smaller : goal.loop-text-smaller
loop-text-smaller c =
    shorter c.args.names.now c.loop-text.text (c.in-Some.class, c.class_item_at.new.text) (sym c.class_item_at.ensures ∙ ap (λ o. left o c.class_item_at.new.text) c.in-Some.is)

pub loop-text-preserved : goal.loop-text-preserved
loop-text-preserved c =
    ap (λ l. onto l (classes_at c.args.names.now c.class_item_at.new.text)) c.in_ok-add.ensures
    ∙ sym (class_first c.args.names.now c.loop-text.classes.items c.loop-text.text c.in-Some.class c.class_item_at.new.text (sym c.begins_item.ensures ∙ c.loop-text-test.true)
    (sym c.class_item_at.ensures ∙ ap (λ o. left o c.class_item_at.new.text) c.in-Some.is))
    ∙ c.loop-text.invariant

pub returns : goal.returns
returns c =
    ap (λ l. Some (l, c.loop-text.text)) (c.in_ok-copy_of.ensures.copied ∙ c.deref.ensures.value)
    ∙ sym (classes_ended c.args.names.now c.loop-text.classes.items c.loop-text.text (sym c.begins_item.ensures ∙ c.loop-text-test.false)) ∙ c.loop-text.invariant
