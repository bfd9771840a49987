use Rattle.std.proofs.Common.{ℕ, suc, refl, ap, ◌∙◌}
use Rattle.std.specs.Prelude.{Some}
use Rattle.at_view.specs.declared.mark.StepKind.TheVariants as kinds
use Rattle.at_core.specs.Locks.{lock_word}
use Rattle.at_core.specs.Passes.{view}
use Rattle.at_core.specs.Steps.{mark, missed}
use Rattle.at_section.specs.Deeds.{held, is_blocked}
use Rattle.at_section.specs.Sections.{locks_of}
use Rattle.at_section.proofs.Holdings.{ready_missed, ready_taken, ready_waited}
use Rattle.at_section.proofs.Room.{first_names, room_left}
use Rattle.at_section.proofs.Settling.{taking_missed, taking_taken, taking_waited}
use Rattle.at_section.proofs.Standing.{blocked_marked}
use Rattle.at_section.proofs.Steps.{moves_missed, moves_taken, moves_then, moves_waited}
use Rattle.at_section.proofs.taking.take_one.Goals as goal

pub try_take-requires-clause-out : goal.try_take-requires-clause-out
try_take-requires-clause-out g c = (first_names (locks_of c.args.note.now) (held (view c.args.pass.now)) c.args.lock.now c.requires.first).1

pub try_take-requires-clause-room : goal.try_take-requires-clause-room
try_take-requires-clause-room g c = room_left c.args.pass.now c.args.note.now c.requires.few c.requires.taking

pub give_all-requires-clause-ready : goal.give_all-requires-clause-ready
give_all-requires-clause-ready g c =
    let p = c.args.pass.now in
    let l = c.args.lock.now in
    let n : ℕ = c.in-Held.field-0 in
    let first = first_names (locks_of c.args.note.now) (held (view p)) l c.requires.first in
    ready_missed p c.try_take.new.pass l (suc n) first.1 (c.try_take.ensures.held n c.in-Held.is).0 c.try_take.ensures.elsewhere c.requires.taking.ready

pub give_all-requires-clause-blocked : goal.give_all-requires-clause-blocked
give_all-requires-clause-blocked g c =
    let v = view c.args.pass.now in
    let l = c.args.lock.now in
    let n : ℕ = c.in-Held.field-0 in
    ap is_blocked (c.try_take.ensures.held n c.in-Held.is).0 ∙ blocked_marked v (missed l v (suc n)) (mark kinds.LockTake (lock_word l) (Some (suc n)) (Some (suc n))) refl

pub returns-in-Held-clause-moves : goal.returns-in-Held-clause-moves
returns-in-Held-clause-moves g c =
    let p = c.args.pass.now in
    let q = c.try_take.new.pass in
    let r = c.give_all.new.pass in
    let s = c.take.new.pass in
    let l = c.args.lock.now in
    let ls = locks_of c.args.note.now in
    let n : ℕ = c.in-Held.field-0 in
    let miss = c.try_take.ensures.held n c.in-Held.is in
    let first = first_names ls (held (view p)) l c.requires.first in
    moves_then ls p q s (moves_missed ls p q l n c.requires.first c.try_take.ensures.same.0 miss.0 miss.1)
    (moves_then ls q r s (c.give_all.ensures.moves ls) (moves_waited ls r s l first.0 c.give_all.ensures.none c.take.ensures.same.0 c.take.ensures.taken))

pub returns-in-Held-clause-taking : goal.returns-in-Held-clause-taking
returns-in-Held-clause-taking g c =
    let p = c.args.pass.now in
    let q = c.try_take.new.pass in
    let r = c.give_all.new.pass in
    let s = c.take.new.pass in
    let l = c.args.lock.now in
    let ls = locks_of c.args.note.now in
    let n : ℕ = c.in-Held.field-0 in
    let miss = c.try_take.ensures.held n c.in-Held.is in
    let first = first_names ls (held (view p)) l c.requires.first in
    let ready = ready_missed p q l (suc n) first.1 miss.0 c.try_take.ensures.elsewhere c.requires.taking.ready in
    let after = c.give_all.ensures.taking ls (taking_missed p q ls l (suc n) miss.0 (ap (λ x. x.items) c.try_take.ensures.same.0.notes) ready c.requires.taking) in
    taking_waited r s ls l first.0 c.give_all.ensures.none c.take.ensures.taken (ap (λ x. x.items) c.take.ensures.same.0.notes)
    (ready_waited r s l c.give_all.ensures.none c.take.ensures.taken c.take.ensures.has c.take.ensures.shut) after.backed

pub returns-in_default-clause-moves : goal.returns-in_default-clause-moves
returns-in_default-clause-moves g c =
    let p = c.args.pass.now in
    let l = c.args.lock.now in
    let ls = locks_of c.args.note.now in
    let first = first_names ls (held (view p)) l c.requires.first in
    moves_taken ls p c.try_take.new.pass l c.requires.first first.1 c.try_take.ensures.same.0 (c.try_take.ensures.got c.in_default.is).0

pub returns-in_default-clause-taking : goal.returns-in_default-clause-taking
returns-in_default-clause-taking g c =
    let p = c.args.pass.now in
    let q = c.try_take.new.pass in
    let l = c.args.lock.now in
    let ls = locks_of c.args.note.now in
    let first = first_names ls (held (view p)) l c.requires.first in
    let got = c.try_take.ensures.got c.in_default.is in
    taking_taken p q ls l got.0.at first.0 got.0.after (ap (λ x. x.items) c.try_take.ensures.same.0.notes)
    (ready_taken p q l first.1 got.0 got.1 c.try_take.ensures.elsewhere c.requires.taking.ready) c.requires.taking
