use Rattle.std.proofs.Common.{◌≢◌, ◌∙◌, true≢false, eq-eqb, sym}
use Rattle.at_core.proofs.ClosingRows.{has_room, row_loaded, row_beside, read_loaded, read_beside}
use Rattle.at_core.proofs.object_end.named_pairs.Goals as goal

pub other_pairs-requires-clause-room : goal.other_pairs-requires-clause-room
other_pairs-requires-clause-room c = has_room c.args.pass.now c.args.o c.requires.one

pub returns-then-eq-clause-read : goal.returns-then-eq-clause-read
returns-then-eq-clause-read c = read_loaded c.args.pass.now c.row_pairs.new.pass c.row_pairs.ensures.loaded

pub returns-then-eq-clause-row : goal.returns-then-eq-clause-row
returns-then-eq-clause-row c = row_loaded c.args.world.now.limits c.args.pass.now c.row_pairs.new.pass c.args.o c.row_pairs.ensures.loaded c.requires.row

pub returns-else-eq-clause-read : goal.returns-else-eq-clause-read
returns-else-eq-clause-read c =
    let apart : c.args.r ≢ c.args.o = λ e. true≢false (sym (eq-eqb c.args.r c.args.o e) ∙ (sym c.eq.ensures ∙ c.if-eq.false)) in
    read_beside c.args.pass.now c.other_pairs.new.pass c.args.r c.other_pairs.ensures.beside (c.requires.one.rows c.args.r apart) c.other_pairs.ensures.out

pub returns-else-eq-clause-row : goal.returns-else-eq-clause-row
returns-else-eq-clause-row c =
    let apart : c.args.o ≢ c.args.r = λ e. true≢false (sym (eq-eqb c.args.r c.args.o (sym e)) ∙ (sym c.eq.ensures ∙ c.if-eq.false)) in
    row_beside c.args.world.now.limits c.args.pass.now c.other_pairs.new.pass c.args.o c.args.r apart c.other_pairs.ensures.beside c.requires.row
