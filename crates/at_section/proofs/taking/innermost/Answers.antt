use Rattle.std.proofs.Common.{◌≡◌, ◌-◌, List, [], ◌∷◌, ◌++◌, sym, ◌∙◌, subst, arith}
use Rattle.std.specs.Prelude.{IfSome, IfNone, Option}
use Rattle.at_core.specs.declared.note.Note.{Note}
use Rattle.at_core.specs.Passes.{notes}
use Rattle.at_section.proofs.Notes.{Last, last_got}
use Rattle.at_section.proofs.taking.innermost.Goals as goal

last_of : (c : goal.After-note_at) → Last (notes c.args.pass.now) (c.sections-count.result - 1)
last_of c =
    let n = c.sections-count.ensures.0 in
    let some = c.if-count-eq0.false in
    last_got (notes c.args.pass.now) (c.sections-count.result - 1) (omega arith)

pub returns-clause-some : goal.returns-clause-some
returns-clause-some c =
    let l = last_of c in
    let P : Option Note → Type 0 = λ r. IfSome r (λ n. (around : List Note) × (notes c.args.pass.now ≡ around ++ n ∷ [])) in
    subst P (sym (c.note_at.ensures ∙ l.got)) (l.around, l.is)

pub returns-clause-none : goal.returns-clause-none
returns-clause-none c =
    let l = last_of c in
    let P : Option Note → Type 0 = λ r. IfNone r (notes c.args.pass.now ≡ []) in
    subst P (sym (c.note_at.ensures ∙ l.got)) tt
