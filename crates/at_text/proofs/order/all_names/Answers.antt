use Rattle.std.proofs.Common.{◌≡◌, ◌∙◌, ap, sym, [], ◌∷◌, ◌++◌, arith, zero-add}
use Rattle.std.specs.List.{range_with_len}
use Rattle.at_value.specs.Widths as widths
use Rattle.at_text.proofs.Keys.{range_with_len_more}
use Rattle.at_text.proofs.order.all_names.Goals as goal

pub loop-number-preserved : goal.loop-number-preserved
loop-number-preserved c =
    let n = c.loop-number.number in
    c.in_ok-push.ensures.items ∙ ap (λ l. l ++ c.name_at.result ∷ []) c.loop-number.invariant
    ∙ ap (λ m. range_with_len 0 n ++ m ∷ []) (c.name_at.ensures ∙ sym (zero-add n)) ∙ sym (range_with_len_more 0 n)

pub returns : goal.returns
returns c =
    let end : c.loop-number.number ≡ widths.names = omega (arith, c.loop-number.auto.number-end) in
    c.loop-number.invariant ∙ ap (range_with_len 0) end
