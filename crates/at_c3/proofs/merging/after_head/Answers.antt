use Rattle.std.proofs.Common.{◌≡◌, ◌∙◌, ap, sym, subst, ℕ, List, ◌∷◌, ◌++◌, drop}
use Rattle.at_c3.specs.Counts.{AreCountsOf}
use Rattle.at_c3.proofs.CountLemmas.{list_from_head}
use Rattle.at_c3.proofs.merging.after_head.Goals as goal

pub returns-in-Some-first-clause-counts : goal.returns-in-Some-first-clause-counts
returns-in-Some-first-clause-counts c = λ others are.
    let rest = c.in-Some.rest.now in
    let next = c.in-Some-first.next.now in
    let Are : List ℕ → Type 0 = λ numbers. AreCountsOf c.args.in_tails.now.counts.items numbers in
    let parts : drop 1 c.args.list.now ++ others ≡ next ∷ (drop 1 rest ++ others) = ap (λ l. drop 1 l ++ others) c.in-Some.ensures.cases.0 ∙ ap (λ l. l ++ others) (list_from_head rest next (sym c.in-Some-first.ensures.value)) in
    c.remove.ensures (drop 1 rest ++ others) (subst Are parts are)
