use Rattle.std.proofs.Common.{◌≡◌, ◌<◌, ◌+◌, suc, arith}
use Rattle.at_view.specs.Counts.{inline_values}
use Rattle.at_core.proofs.Closing.{value_more}
use Rattle.at_core.proofs.object_end.load_values.Goals as goal

pub loop-i-preserved : goal.loop-i-preserved
loop-i-preserved c =
    let next : c.loop-i.i + 1 ≡ suc c.loop-i.i = omega arith in
    let below : c.loop-i.i < inline_values = c.loop-i-test.true in
    let loaded = c.load_inline.ensures.loaded in
    let same = c.load_inline.ensures.same in (
      same.1,
      value_more c.args.pass.now c.loop-i.pass c.load_inline.new.pass c.args.o c.loop-i.i (c.loop-i.i + 1) c.load_inline.result loaded.0 c.loop-i.words next c.requires.row c.loop-i.invariant.1
          below same.0 same.2 loaded.1 loaded.2,
    )
