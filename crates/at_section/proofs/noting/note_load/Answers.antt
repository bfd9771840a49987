use Rattle.std.proofs.Common.{ℕ, ◌<◌, set, length, ap, ◌∙◌, arith, length-set}
use Rattle.at_core.specs.Passes.{notes, view}
use Rattle.at_section.specs.Deeds.{held}
use Rattle.at_section.specs.Sections.{after_load}
use Rattle.at_section.proofs.Notes.{changed_more}
use Rattle.at_section.proofs.noting.note_load.Goals as goal

pub loop-i-preserved : goal.loop-i-preserved
loop-i-preserved c =
    let was = notes c.args.pass.now in
    let now = notes c.loop-i.pass in
    let i : ℕ = c.loop-i.i in
    let so = c.loop-i.invariant in
    let same = c.note_load_at.ensures.same in
    let at = c.note_load_at.ensures.noted in
    let lt : i < length was = (let e = c.sections-i-end.ensures.0 in let t = c.loop-i-test.true in omega arith) in (
      record { seat = same.seat ∙ so.0.seat; number = same.number ∙ so.0.number },
      ap length at.2 ∙ (length-set now i (after_load (held (view c.loop-i.pass)) at.0) ∙ so.1),
      at.2 ∙ (ap (λ s. set now i (after_load (held s.me.0) at.0)) so.0.seat ∙ changed_more (after_load (held (view c.args.pass.now))) was now i at.0 lt so.2 at.1),
    )
