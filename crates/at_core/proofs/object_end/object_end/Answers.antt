use Rattle.at_core.specs.Passes.{view}
use Rattle.at_core.proofs.Closing.{loaded_head}
use Rattle.at_core.proofs.ClosingRows.{has_room, no_row, one_row, row_loaded, read_row}
use Rattle.at_core.proofs.object_end.object_end.Goals as goal

pub take_row-requires-clause-room : goal.take_row-requires-clause-room
take_row-requires-clause-room c = has_room c.args.pass.now c.args.o (no_row (view c.args.pass.now) c.args.o c.requires.only)

pub held_pairs-own-requires-clause-one : goal.held_pairs-own-requires-clause-one
held_pairs-own-requires-clause-one c =
    let told = c.load_head-head.ensures.loaded in
    let same = c.load_head-head.ensures.same in
    let load = loaded_head c.take_row.new.pass c.load_head-head.new.pass c.args.o told.0 c.load_head-head.result same.0 same.2 told.2 in
    one_row c.args.pass.now c.take_row.new.pass c.load_head-head.new.pass c.args.o c.requires.only c.take_row.ensures.beside load

pub held_pairs-own-requires-clause-row : goal.held_pairs-own-requires-clause-row
held_pairs-own-requires-clause-row c =
    let told = c.load_head-head.ensures.loaded in
    let same = c.load_head-head.ensures.same in
    let load = loaded_head c.take_row.new.pass c.load_head-head.new.pass c.args.o told.0 c.load_head-head.result same.0 same.2 told.2 in
    row_loaded c.args.world.now.limits c.take_row.new.pass c.load_head-head.new.pass c.args.o load c.take_row.ensures.row

pub returns-in_err-own-clause-read : goal.returns-in_err-own-clause-read
returns-in_err-own-clause-read c =
    let told = c.load_head-head.ensures.loaded in
    let same = c.load_head-head.ensures.same in
    let load = loaded_head c.take_row.new.pass c.load_head-head.new.pass c.args.o told.0 c.load_head-head.result same.0 same.2 told.2 in
    read_row c.args.pass.now c.take_row.new.pass c.load_head-head.new.pass c.held_pairs-own.new.pass c.give_row.new.pass c.args.o c.requires.only c.take_row.ensures.beside load
    c.held_pairs-own.ensures.read c.give_row.ensures.beside c.give_row.ensures.out

pub returns-clause-read : goal.returns-clause-read
returns-clause-read c =
    let told = c.load_head-head.ensures.loaded in
    let same = c.load_head-head.ensures.same in
    let load = loaded_head c.take_row.new.pass c.load_head-head.new.pass c.args.o told.0 c.load_head-head.result same.0 same.2 told.2 in
    read_row c.args.pass.now c.take_row.new.pass c.load_head-head.new.pass c.held_pairs-own.new.pass c.give_row.new.pass c.args.o c.requires.only c.take_row.ensures.beside load
    c.held_pairs-own.ensures.read c.give_row.ensures.beside c.give_row.ensures.out
