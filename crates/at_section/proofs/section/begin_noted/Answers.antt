use Rattle.std.proofs.Common.{◌≡◌, true, ap, ◌∙◌}
use Rattle.at_core.specs.Passes.{view}
use Rattle.at_section.specs.Sections.{locks_of}
use Rattle.at_section.proofs.Begun.{begins_of}
use Rattle.at_section.proofs.Holdings.{ready_noted}
use Rattle.at_section.proofs.Settling.{giving_loaded, held_begun, taking_held}
use Rattle.at_section.proofs.Standing.{held_loaded}
use Rattle.at_section.proofs.section.begin_noted.Goals as goal
use Rattle.std.specs.List.{list_all}
use Rattle.at_section.specs.Deeds.{held}

pub take_all-requires-clause-taking : goal.take_all-requires-clause-taking
take_all-requires-clause-taking g c = taking_held c.args.pass.now (locks_of c.args.note.now) c.requires.held.0 c.requires.held.1

pub returns-clause-begun : goal.returns-clause-begun
returns-clause-begun g c =
    let take = c.take_all.ensures in
    let load = c.load_noted-begun.ensures in
    let push = c.push_note.ensures in
    begins_of c.args.pass.now c.take_all.new.pass c.load_noted-begun.new.pass c.push_note.new.self c.args.note.now c.load_noted-begun.result load.loaded.0 take.moves take.has
    load.same.0 load.loaded.1 load.loaded.2 load.loaded.3 load.noted push.same push.pushed c.requires.new.0 c.requires.new.1

pub returns-clause-held : goal.returns-clause-held
returns-clause-held g c =
    let take = c.take_all.ensures in
    let load = c.load_noted-begun.ensures in
    let push = c.push_note.ensures in
    let q = c.take_all.new.pass in
    let r = c.load_noted-begun.new.pass in
    let s = c.push_note.new.self in
    let n = c.args.note.now in
    let has : list_all (held (view r)) (locks_of n) ≡ true = ap (λ v. list_all (held v) (locks_of n)) load.loaded.2 ∙ (ap (λ h. list_all h (locks_of n)) (held_loaded (view q) load.loaded.0) ∙ take.has) in
    (held_begun r s n (ap (λ x. x.me.0) push.same.seat) push.pushed c.requires.new.0 has (giving_loaded q r (locks_of n) load.loaded.0 load.loaded.2 load.noted load.ready take.taking), ready_noted r s push.same load.ready)
