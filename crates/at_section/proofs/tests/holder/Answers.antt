use Rattle.std.proofs.Common.{◌≡◌, ℕ, suc, ◌<◌, ◌≤◌, [], length, false, sym, ap, ◌∙◌, arith}
use Rattle.std.specs.Prelude.{None}
use Rattle.at_core.specs.Passes.{notes, view, hand}
use Rattle.at_core.specs.declared.note.Note.{Note}
use Rattle.at_section.proofs.Outside.{surface_missed, surface_tried, shut_of}
use Rattle.at_section.proofs.Room.{room_left}
use Rattle.at_section.proofs.Settling.{taking_held}
use Rattle.at_section.proofs.tests.holder.Goals as goal

-- a note that names nothing
abbrev empty : Note
empty = record { types = false; a = None; b = None; active = false; given = 0 }

pub try_take-requires-clause-room : goal.try_take-requires-clause-room
try_take-requires-clause-room c =
    let p = c.args.pass.now in
    let few : length (notes p) ≤ 20 = (let e = c.sections.ensures in omega arith) in
    room_left p empty few (taking_held p [] c.requires.surface.held c.requires.surface.ready)

pub returns-in-Got : goal.returns-in-Got
returns-in-Got c =
    let p = c.args.pass.now in
    let q = c.try_take.new.pass in
    let r = c.give.new.pass in
    let l = c.args.lock.now in
    let got = c.try_take.ensures.got c.in-Got.is in (
      c.give.ensures.same.1,
      surface_tried p q r l (sym c.has_lock.ensures ∙ c.if-has_lock.false) got.0 got.1 (ap (λ x. x.items) c.try_take.ensures.same.0.notes) c.try_take.ensures.elsewhere
          c.give.ensures.given (ap (λ x. x.items) c.give.ensures.same.0.notes) c.give.ensures.elsewhere c.requires.surface,
    )

pub returns-in-Held : goal.returns-in-Held
returns-in-Held c =
    let p = c.args.pass.now in
    let q = c.try_take.new.pass in
    let l = c.args.lock.now in
    let n : ℕ = c.in-Held.number in
    (c.try_take.ensures.same.1, surface_missed p q l (suc n) (sym c.has_lock.ensures ∙ c.if-has_lock.false) (c.try_take.ensures.held n c.in-Held.is).0 (ap (λ x. x.items) c.try_take.ensures.same.0.notes) c.try_take.ensures.elsewhere c.requires.surface)
