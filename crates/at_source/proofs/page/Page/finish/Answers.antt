use Rattle.std.proofs.Common.{◌∙◌, List, ℕ, Option, refl, subst, sym}
use Rattle.std.proofs.lemmas.Result.{on_err_weaker}
use Rattle.at_source.specs.Whole.{GrewByPrefix}
use Rattle.at_source.proofs.Printing.{printed_prefix, stopped_same, then_nothing}
use Rattle.at_source.proofs.page.Page.finish.Goals as goal

pub returns-then-self-clause-stopped : goal.returns-then-self-clause-stopped
returns-then-self-clause-stopped g c = λ was.
    let held = c.send_held.ensures in
    (refl, stopped_same held.text was, held.no_fault ((held.text.stopped was).1 ∙ sym was))

pub returns-then-self-clause-prefix : goal.returns-then-self-clause-prefix
returns-then-self-clause-prefix g c = λ start text printed. printed_prefix _ _ _ _ (then_nothing printed c.send_held.ensures.text)

pub returns-clause-prefix : goal.returns-clause-prefix
returns-clause-prefix g c =
    on_err_weaker c.flush.result (λ _ start text printed.
    let P : Option (List ℕ) → Type 0 = λ written. GrewByPrefix start written text in
    subst P (sym c.flush.ensures.unchanged) (printed_prefix _ _ _ _ (then_nothing printed c.send_held.ensures.text)))
    c.flush.ensures.cause
