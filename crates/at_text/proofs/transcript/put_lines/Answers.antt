use Rattle.std.proofs.Common.{◌≤◌, length, arith}
use Rattle.at_text.specs.Lines.{line_text}
use Rattle.at_text.proofs.Printing.{prints_nothing, prints_number, then_prints, then_next, all_items}
use Rattle.at_text.proofs.transcript.put_lines.Goals as goal

pub loop-i-init : goal.loop-i-init
loop-i-init g c = prints_nothing _

pub loop-i-preserved : goal.loop-i-preserved
loop-i-preserved g c = then_next (line_text c.args.names.now) c.args.lines.now c.loop-i.i c.loop-i.invariant c.put_line_at.ensures

pub returns : goal.returns
returns g c =
    let count = prints_number _ (length c.args.lines.now) c.len.ensures c.number.ensures in
    let over : length c.args.lines.now ≤ c.loop-i.i = omega arith in
    let lines = all_items (line_text c.args.names.now) c.args.lines.now c.loop-i.i over c.loop-i.invariant in
    then_prints (then_prints (then_prints c.write.ensures count) c.write-2.ensures) lines
