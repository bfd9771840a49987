use Rattle.at_core.proofs.ClosingRows.{read_loaded, row_loaded}
use Rattle.at_core.proofs.object_end.held_pairs.Goals as goal

pub returns-then-layout_in-eq-INLINE-clause-read : goal.returns-then-layout_in-eq-INLINE-clause-read
returns-then-layout_in-eq-INLINE-clause-read c = read_loaded c.args.pass.now c.inline_pairs.new.pass c.inline_pairs.ensures.loaded

pub returns-then-layout_in-eq-INLINE-clause-row : goal.returns-then-layout_in-eq-INLINE-clause-row
returns-then-layout_in-eq-INLINE-clause-row c =
    row_loaded c.args.world.now.limits c.args.pass.now c.inline_pairs.new.pass c.args.o c.inline_pairs.ensures.loaded c.requires.row
