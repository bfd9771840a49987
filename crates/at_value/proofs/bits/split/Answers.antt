use Rattle.std.proofs.Common.{◌≡◌, ◌≤◌, ◌+◌, ◌-◌, ◌*◌, ◌^◌, ◌%◌, ◌∙◌, ap, arith, bit_and}
use Rattle.std.proofs.lemmas.Nat.{and_mask, shl_whole}
use Rattle.at_value.proofs.bits.split.Goals as goal

pub returns-clause-low : goal.returns-clause-low
returns-clause-low c =
    let room : 1 + c.args.width ≤ 64 = omega (arith, c.requires) in
    let shifted : 1 * 2 ^ c.args.width % 2 ^ 64 ≡ 1 * 2 ^ c.args.width = shl_whole 1 1 c.args.width 64 (omega arith) room in
    let one : 1 * 2 ^ c.args.width ≡ 2 ^ c.args.width = omega arith in
    ap (λ bit. bit_and c.args.word (bit - 1)) (shifted ∙ one) ∙ and_mask c.args.word c.args.width
