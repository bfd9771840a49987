use Rattle.std.proofs.Common.{[], sym, ap, ◌∙◌}
use Rattle.at_core.specs.Passes.{notes, view}
use Rattle.at_section.specs.Deeds.{held}
use Rattle.at_section.proofs.Begun.{finishes_of}
use Rattle.at_section.proofs.Holdings.{ready_noted}
use Rattle.at_section.proofs.Settling.{giving_loaded, giving_popped, load_leaves, taking_held}
use Rattle.at_section.proofs.section.end_noted.Goals as goal

pub unreachable-requires : goal.unreachable-requires
unreachable-requires g c =
    let p = c.args.pass.now in
    c.requires.some (sym (c.load_noted-place.ensures.noted ∙ load_leaves (held (view p)) (notes p) c.requires.held.0.settled) ∙ c.in_default.ensures.none.0)

pub release_all-requires-clause-giving : goal.release_all-requires-clause-giving
release_all-requires-clause-giving g c =
    let p = c.args.pass.now in
    let q = c.load_noted-place.new.pass in
    let r = c.pop_note.new.self in
    let load = c.load_noted-place.ensures in
    let pop = c.in-Some.ensures in
    giving_popped q r c.in-Some.note (ap (λ x. x.me.0) pop.same.seat) pop.some (ready_noted q r pop.same load.ready)
    (giving_loaded p q [] load.loaded.0 load.loaded.2 load.noted load.ready (taking_held p [] c.requires.held.0 c.requires.held.1))

pub returns-clause-ended : goal.returns-clause-ended
returns-clause-ended g c =
    let load = c.load_noted-place.ensures in
    let pop = c.in-Some.ensures in
    finishes_of c.args.pass.now c.load_noted-place.new.pass c.pop_note.new.self c.release_all.new.pass c.resume.new.pass c.in-Some.note c.load_noted-place.result load.loaded.0 c.how_of.result
    c.requires.held.0 load.same.0 load.loaded.1 load.loaded.2 load.loaded.3 load.noted pop.same pop.some c.release_all.ensures.moves c.resume.ensures.moves c.how_of.ensures.count c.how_of.ensures.some
