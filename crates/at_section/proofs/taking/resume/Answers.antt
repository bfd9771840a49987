use Rattle.std.proofs.Common.{◌≡◌, true, List, sym, ap, ◌∙◌, subst}
use Rattle.std.specs.List.{list_all}
use Rattle.at_core.specs.declared.lock.Lock as lock
use Rattle.at_core.specs.Passes.{notes, view}
use Rattle.at_section.specs.Calls.{Moves, last_of}
use Rattle.at_section.specs.Deeds.{held}
use Rattle.at_section.specs.Sections.{locks_of, named_locks}
use Rattle.at_section.proofs.Begun.{same_last}
use Rattle.at_section.proofs.Settling.{giving_loaded, held_active, held_resumed, held_stays, last_named, taking_giving, top_none}
use Rattle.at_section.proofs.Standing.{held_loaded}
use Rattle.at_section.proofs.Steps.{moves_loaded, moves_same, moves_then}
use Rattle.at_section.proofs.taking.resume.Goals as goal

pub returns-in_default-clause-moves : goal.returns-in_default-clause-moves
returns-in_default-clause-moves g c = moves_same (last_of (named_locks (notes c.args.pass.now))) c.args.pass.now

pub returns-in_default-clause-held : goal.returns-in_default-clause-held
returns-in_default-clause-held g c = held_stays c.args.pass.now c.requires.giving (top_none (notes c.args.pass.now) c.in_default.ensures.none)

pub returns-then-note-clause-moves : goal.returns-then-note-clause-moves
returns-then-note-clause-moves g c = moves_same (last_of (named_locks (notes c.args.pass.now))) c.args.pass.now

pub returns-then-note-clause-held : goal.returns-then-note-clause-held
returns-then-note-clause-held g c =
    let some = c.in-Some.ensures.some in
    held_active c.args.pass.now some.0 c.in-Some.note some.1 c.if-note.true c.requires.giving

pub take_all-requires-clause-taking : goal.take_all-requires-clause-taking
take_all-requires-clause-taking g c = taking_giving c.args.pass.now (locks_of c.in-Some.note) c.requires.giving

pub returns-clause-moves : goal.returns-clause-moves
returns-clause-moves g c =
    let p = c.args.pass.now in
    let q = c.take_all.new.pass in
    let r = c.load_noted.new.pass in
    let n = c.in-Some.note in
    let some = c.in-Some.ensures.some in
    let load = c.load_noted.ensures in
    let same : last_of (named_locks (notes p)) ≡ locks_of n = ap (λ ns. last_of (named_locks ns)) some.1 ∙ last_named some.0 n in
    subst (λ (ls : List lock.Lock). Moves ls p r) (sym same)
    (moves_then (locks_of n) p q r c.take_all.ensures.moves (moves_loaded (locks_of n) q r load.loaded.0 load.same.0 load.loaded.2 load.loaded.3.later load.noted))

pub returns-clause-held : goal.returns-clause-held
returns-clause-held g c =
    let p = c.args.pass.now in
    let q = c.take_all.new.pass in
    let r = c.load_noted.new.pass in
    let n = c.in-Some.note in
    let some = c.in-Some.ensures.some in
    let load = c.load_noted.ensures in
    let moves = moves_loaded (locks_of n) q r load.loaded.0 load.same.0 load.loaded.2 load.loaded.3.later load.noted in
    let l = same_last (notes r) some.0 n (moves.named ∙ (c.take_all.ensures.moves.named ∙ ap named_locks some.1)) in
    let has : list_all (held (view r)) (locks_of n) ≡ true = ap (λ v. list_all (held v) (locks_of n)) load.loaded.2 ∙ (ap (λ h. list_all h (locks_of n)) (held_loaded (view q) load.loaded.0) ∙ c.take_all.ensures.has) in
    held_resumed r (locks_of n) l.around l.one l.is l.names_same has (giving_loaded q r (locks_of n) load.loaded.0 load.loaded.2 load.noted load.ready c.take_all.ensures.taking)
