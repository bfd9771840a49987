use Rattle.std.proofs.Common.{◌∙◌}
use Rattle.at_text.specs.Last.{class_end_text}
use Rattle.at_text.proofs.Printing.{then_next}
use Rattle.at_text.proofs.last.put_class_ends.Goals as goal

pub loop-i-preserved : goal.loop-i-preserved
loop-i-preserved g c = record {
  text = then_next (class_end_text c.args.names.now) c.args.ends.now c.loop-i.i c.loop-i.invariant.text c.put_class_end_at.ensures.text;
  keys = c.put_class_end_at.ensures.keys ∙ c.loop-i.invariant.keys;
}
