use Rattle.std.proofs.Common.{sym, ◌∙◌, arith}
use Rattle.at_core.specs.Passes.{notes, view}
use Rattle.at_section.specs.Deeds.{held}
use Rattle.at_section.specs.Sections.{locks_of}
use Rattle.at_section.proofs.Ending.{as_many}
use Rattle.at_section.proofs.Room.{none_wanting}
use Rattle.at_section.proofs.Steps.{moves_same, moves_then}
use Rattle.at_section.proofs.taking.take_all.Goals as goal

pub loop-init : goal.loop-init
loop-init g c = (c.requires.of, c.requires.few, moves_same (locks_of c.args.note.now) c.args.pass.now, c.requires.taking)

pub loop-preserved : goal.loop-preserved
loop-preserved g c =
    let so = c.loop.invariant in
    let one = c.take_one.ensures in
    let same = as_many (notes c.take_one.new.pass) (notes c.loop.pass) one.moves.named in
    let few = so.1 in
    (one.of, omega arith, moves_then (locks_of c.args.note.now) c.args.pass.now c.loop.pass c.take_one.new.pass so.2 one.moves, one.taking)

pub returns-in-None-wanting-clause-of : goal.returns-in-None-wanting-clause-of
returns-in-None-wanting-clause-of g c = c.loop.invariant.0

pub returns-in-None-wanting-clause-moves : goal.returns-in-None-wanting-clause-moves
returns-in-None-wanting-clause-moves g c = c.loop.invariant.2

pub returns-in-None-wanting-clause-has : goal.returns-in-None-wanting-clause-has
returns-in-None-wanting-clause-has g c = none_wanting (locks_of c.args.note.now) (held (view c.loop.pass)) (sym c.wanting.ensures ∙ c.in-None-wanting.is)

pub returns-in-None-wanting-clause-taking : goal.returns-in-None-wanting-clause-taking
returns-in-None-wanting-clause-taking g c = c.loop.invariant.3
