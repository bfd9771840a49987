use Rattle.at_core.proofs.ClosingRows.{named_taken, row_loaded}
use Rattle.at_core.proofs.object_end.other_pairs.Goals as goal

pub row_pairs-pairs-requires-clause-dictionary : goal.row_pairs-pairs-requires-clause-dictionary
row_pairs-pairs-requires-clause-dictionary c =
    let t = c.take_row.ensures in
    named_taken c.args.pass.now c.take_row.new.pass c.args.r t.beside c.requires.out t.row.held t.named c.requires.named

pub give_row-requires-clause-row : goal.give_row-requires-clause-row
give_row-requires-clause-row c =
    row_loaded c.args.world.now.limits c.take_row.new.pass c.row_pairs-pairs.new.pass c.args.r c.row_pairs-pairs.ensures.loaded c.take_row.ensures.row
