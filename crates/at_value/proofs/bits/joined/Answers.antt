use Rattle.std.proofs.Common.{◌≡◌, ◌≤◌, ◌+◌, ◌-◌, ◌*◌, ◌^◌, ◌%◌, ◌∙◌, ap, arith, bit_or}
use Rattle.std.proofs.lemmas.Nat.{or_shifted, shl_whole}
use Rattle.at_value.proofs.bits.joined.Goals as goal

pub returns : goal.returns
returns c =
    let room : 64 - c.args.width + c.args.width ≤ 64 = omega (arith, c.requires.width) in
    let shifted : c.args.above * 2 ^ c.args.width % 2 ^ 64 ≡ c.args.above * 2 ^ c.args.width = shl_whole c.args.above (64 - c.args.width) c.args.width 64 c.requires.above room in
    ap (λ word. bit_or word c.args.low) shifted ∙ or_shifted c.args.above c.args.width c.args.low c.requires.low
