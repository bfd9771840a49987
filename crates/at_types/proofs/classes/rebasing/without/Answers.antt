use Rattle.std.proofs.Common.{◌≡◌, ◌∙◌, ◌<◌, ◌++◌, ◌∷◌, [], true, false, ap, sym, arith, length}
use Rattle.at_value.specs.Widths as widths
use Rattle.at_c3.proofs.NumberLemmas.{has}
use Rattle.at_types.proofs.MissingBases.{missing-more, missing-skip, missing-few, pushed}
use Rattle.at_types.proofs.classes.rebasing.without.Goals as goal
use Rattle.at_types.proofs.classes.rebasing.without.Goals.{then-not-has_class, else-not-has_class}

pub loop-i-preserved : goal.loop-i-preserved
loop-i-preserved c =
    let others = c.args.others.now in
    let classes = c.as_slice-classes.result.now in
    let i = c.loop-i.i in
    let b = c.index-classes-i.result in
    let within : i < length classes = omega (arith, c.loop-i-test.true, c.len-i-end.ensures.same, ap length c.as_slice-classes.ensures) in
    let room : length c.loop-i.rest < widths.most_bases =
    omega (arith, within, missing-few others classes i (omega arith), ap length c.loop-i.invariant, c.loop-i-test.true, c.len-i-end.ensures.most) in
    elim c.if-not-has_class.branch [
      | then-not-has_class w ↦
          let none : has b others ≡ false = ap (has b) (sym c.as_slice.ensures) ∙ sym c.has_class.ensures ∙ w.if-not-has_class.true in
          w.rest-is ∙ pushed w.push.result widths.most_bases c.loop-i.rest w.push.new.self b w.push.ensures.ok w.push.ensures.full room
          ∙ ap (λ list. list ++ b ∷ []) c.loop-i.invariant ∙ sym (missing-more others classes i b within c.index-classes-i.is none)
      | else-not-has_class w ↦
          let there : has b others ≡ true = ap (has b) (sym c.as_slice.ensures) ∙ sym c.has_class.ensures ∙ w.if-not-has_class.false in
          w.rest-is ∙ c.loop-i.invariant ∙ sym (missing-skip others classes i b within c.index-classes-i.is there)
    ]
