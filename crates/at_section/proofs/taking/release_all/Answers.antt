use Rattle.std.proofs.Common.{List, [], ◌++◌, sym, subst, append-nil}
use Rattle.at_core.specs.declared.lock.Lock as lock
use Rattle.at_section.specs.Sections.{row_lock}
use Rattle.at_section.specs.Surfaces.{IsGiving}
use Rattle.at_section.proofs.Steps.{moves_then}
use Rattle.at_section.proofs.taking.release_all.Goals as goal

pub returns-clause-moves : goal.returns-clause-moves
returns-clause-moves c ls =
    let p = c.args.pass.now in
    let q = c.release_types.new.pass in
    let r = c.release_row.new.pass in
    let s = c.release_row-2.new.pass in
    moves_then ls p q s (c.release_types.ensures.moves ls) (moves_then ls q r s (c.release_row.ensures.moves ls) (c.release_row-2.ensures.moves ls))

pub returns-clause-giving : goal.returns-clause-giving
returns-clause-giving c =
    let n = c.args.note.now in
    let a = c.release_types.ensures.giving (row_lock n.a ++ row_lock n.b) c.requires.giving in
    let b = c.release_row.ensures.giving (row_lock n.b) a in
    c.release_row-2.ensures.giving [] (subst (λ (ls : List lock.Lock). IsGiving ls c.release_row.new.pass) (sym (append-nil (row_lock n.b))) b)
