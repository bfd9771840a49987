use Rattle.at_dict.proofs.Inlines.{AreFilled}
use Rattle.at_dict.proofs.body.Body.from_inline.Given as goal

abbrev pub invariant-loop-i : goal.invariant-loop-i
invariant-loop-i l = AreFilled l.i l.fn.self.spare l.keys l.words l.self
