use Rattle.std.proofs.Common.{◌≡◌, ◌∙◌, ap, sym, true, false}
use Rattle.at_back.specs.Left.{leads_zero}
use Rattle.at_back.proofs.Numbers.{leading_none, parsed_plain}
use Rattle.at_back.proofs.number.number_of.Goals as goal

pub returns-then-leads_zero : goal.returns-then-leads_zero
returns-then-leads_zero c =
    let leads : leads_zero c.args.word.now ≡ true = ap leads_zero (sym c.as_bytes.ensures.value) ∙ sym c.leads_zero.ensures ∙ c.if-leads_zero.true in
    sym (leading_none c.args.word.now leads)

pub returns-else-leads_zero : goal.returns-else-leads_zero
returns-else-leads_zero c =
    let plain : leads_zero c.args.word.now ≡ false = ap leads_zero (sym c.as_bytes.ensures.value) ∙ sym c.leads_zero.ensures ∙ c.if-leads_zero.false in
    c.ok.ensures.value ∙ parsed_plain c.args.word.now c.parse.result c.requires plain c.parse.ensures.value.0
