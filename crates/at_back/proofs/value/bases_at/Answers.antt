use Rattle.std.proofs.Common.{◌≡◌, ◌∙◌, ap, sym, arith, [], ◌∷◌, true, false, length, length-append, Result, Ok, Err}
use Rattle.std.specs.Result.{OnOk, OnErr, is_err}
use Rattle.at_text.specs.ReadValues.{classes_at}
use Rattle.at_back.specs.Left.{left}
use Rattle.at_back.proofs.Items.{onto}
use Rattle.at_back.proofs.ClassItems.{shorter, class_first, classes_begun, bases_ended, bases_wrong, bases_full}
use Rattle.at_back.proofs.value.bases_at.Goals as goal

where_err : {A E : Type 0} (r : Result A E) (P : Type 0) → OnErr r P → is_err r ≡ true → P
where_err (Ok a) P h e = cc
where_err (Err f) P h e = h

where_ok : {A E : Type 0} (r : Result A E) (P : Type 0) → OnOk r P → is_err r ≡ false → P
where_ok (Ok a) P h e = h
where_ok (Err f) P h e = cc

pub loop-text-init : goal.loop-text-init
loop-text-init c =
    let none = ap length c.none-bases.ensures in
    record {
      same = ap (λ l. onto l (classes_at c.args.names.now c.args.text.now)) c.none-bases.ensures ∙ classes_begun c.args.names.now c.args.text.now;
      short = omega arith;
    }

pub returns-in_err-class : goal.returns-in_err-class
returns-in_err-class c =
    ap (λ o. left o c.class_item_at.new.text) c.from_residual.ensures
    ∙ sym (bases_wrong c.args.names.now c.loop-text.bases c.loop-text.text c.args.text.now c.loop-text.invariant.same (sym c.begins_item.ensures ∙ c.loop-text-test.true)
    (sym c.class_item_at.ensures ∙ ap (λ o. left o c.class_item_at.new.text) c.in_err-class.was))

pub returns-then-is_err : goal.returns-then-is_err
returns-then-is_err c =
    let full = where_err c.push.result _ c.push.ensures.full (sym c.is_err.ensures.value ∙ c.if-is_err.true) in
    sym (bases_full c.args.names.now c.loop-text.bases c.loop-text.text c.args.text.now c.in_ok-class.class c.class_item_at.new.text c.loop-text.invariant.same (sym c.begins_item.ensures ∙ c.loop-text-test.true)
    (sym c.class_item_at.ensures ∙ ap (λ o. left o c.class_item_at.new.text) c.in_ok-class.was) full.0)

pub loop-text-smaller : goal.loop-text-smaller
loop-text-smaller c =
    shorter c.args.names.now c.loop-text.text (c.in_ok-class.class, c.class_item_at.new.text) (sym c.class_item_at.ensures ∙ ap (λ o. left o c.class_item_at.new.text) c.in_ok-class.was)

pub loop-text-preserved : goal.loop-text-preserved
loop-text-preserved c =
    let added = where_ok c.push.result _ c.push.ensures.ok (sym c.is_err.ensures.value ∙ c.if-is_err.false) in
    let long = ap length added.1 in
    let longer = length-append c.loop-text.bases (c.in_ok-class.class ∷ []) in
    let below = added.0 in
    record {
      same =
          ap (λ l. onto l (classes_at c.args.names.now c.class_item_at.new.text)) added.1
          ∙ sym (class_first c.args.names.now c.loop-text.bases c.loop-text.text c.in_ok-class.class c.class_item_at.new.text (sym c.begins_item.ensures ∙ c.loop-text-test.true)
          (sym c.class_item_at.ensures ∙ ap (λ o. left o c.class_item_at.new.text) c.in_ok-class.was))
          ∙ c.loop-text.invariant.same;
      short = omega arith;
    }

pub returns : goal.returns
returns c =
    sym (bases_ended c.args.names.now c.loop-text.bases c.loop-text.text c.args.text.now c.loop-text.invariant.same (sym c.begins_item.ensures ∙ c.loop-text-test.false) c.loop-text.invariant.short)
