use Rattle.std.proofs.Common.{ℕ, ◌<◌, Bool, ◌||◌, ◌&&◌, length, get_or, sym, ap, ◌∙◌, arith}
use Rattle.std.proofs.lemmas.List.Folds.{list_any_more, list_any_at}
use Rattle.std.proofs.lemmas.Option.{get_or_from_slice_get}
use Rattle.at_core.specs.declared.note.Note.{Note}
use Rattle.at_core.specs.Passes.{notes}
use Rattle.at_section.specs.Deeds.{word_of}
use Rattle.at_section.specs.Deeds.{names as names_word}
use Rattle.at_section.specs.Sections.{locks_of}
use Rattle.at_section.proofs.naming.is_named.Goals as goal

pub returns-then-names_at : goal.returns-then-names_at
returns-then-names_at c =
    let ns = notes c.args.pass.now in
    let test : Note → Bool = λ n. n.active && names_word (locks_of n) (word_of c.args.lock.now) in
    let i : ℕ = c.loop-i.i in
    let at = c.names_at.ensures in
    let lt : i < length ns = (let e = c.sections-i-end.ensures.0 in let t = c.loop-i-test.true in omega arith) in
    sym (list_any_at test ns i at.0 lt (ap test (get_or_from_slice_get ns i at.0 at.0 at.1) ∙ (sym at.2 ∙ c.if-names_at.true)))

pub loop-i-preserved : goal.loop-i-preserved
loop-i-preserved c =
    let ns = notes c.args.pass.now in
    let test : Note → Bool = λ n. n.active && names_word (locks_of n) (word_of c.args.lock.now) in
    let i : ℕ = c.loop-i.i in
    let at = c.names_at.ensures in
    let lt : i < length ns = (let e = c.sections-i-end.ensures.0 in let t = c.loop-i-test.true in omega arith) in
    list_any_more test ns i at.0 lt ∙ (ap (λ b. b || test (get_or ns i at.0)) c.loop-i.invariant ∙ (ap test (get_or_from_slice_get ns i at.0 at.0 at.1) ∙ (sym at.2 ∙ c.if-names_at.false)))
