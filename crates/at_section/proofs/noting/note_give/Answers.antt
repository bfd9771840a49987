use Rattle.std.proofs.Common.{ℕ, ◌<◌, length, ap, ◌∙◌, arith, length-set}
use Rattle.at_core.specs.Passes.{notes}
use Rattle.at_section.specs.Sections.{after_give}
use Rattle.at_section.proofs.Notes.{changed_more}
use Rattle.at_section.proofs.noting.note_give.Goals as goal

pub loop-i-preserved : goal.loop-i-preserved
loop-i-preserved c =
    let was = notes c.args.pass.now in
    let now = notes c.loop-i.pass in
    let i : ℕ = c.loop-i.i in
    let so = c.loop-i.invariant in
    let same = c.note_give_at.ensures.same in
    let at = c.note_give_at.ensures.noted in
    let lt : i < length was = (let e = c.sections-i-end.ensures.0 in let t = c.loop-i-test.true in omega arith) in (
      record { seat = same.seat ∙ so.0.seat; number = same.number ∙ so.0.number },
      ap length at.2 ∙ (length-set now i (after_give c.args.lock.now at.0) ∙ so.1),
      at.2 ∙ changed_more (after_give c.args.lock.now) was now i at.0 lt so.2 at.1,
    )
