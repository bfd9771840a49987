use Rattle.std.proofs.Common.{◌≡◌, length}
use Rattle.at_text.specs.ReadValues.{classes_at}
use Rattle.at_back.proofs.Items.{onto}
use Rattle.at_back.proofs.reply.classes_at.Given as goal

-- the classes so far, and those that are read after them
abbrev pub invariant-loop-text : goal.invariant-loop-text
invariant-loop-text l = onto l.classes.items (classes_at l.names l.text) ≡ classes_at l.names l.initial.text

abbrev pub decreases-loop-text : goal.decreases-loop-text
decreases-loop-text l = length l.text
