use Rattle.std.proofs.Common.{◌∙◌}
use Rattle.at_text.proofs.Printing.{then_object}
use Rattle.at_text.proofs.last.put_object_ends.Goals as goal

pub loop-number-preserved : goal.loop-number-preserved
loop-number-preserved g c = record {
  text = then_object c.args.names.now c.args.ends.now c.loop-number.number c.loop-number.invariant.text c.put_object_end_at.ensures.text;
  keys = c.put_object_end_at.ensures.keys ∙ c.loop-number.invariant.keys;
}
