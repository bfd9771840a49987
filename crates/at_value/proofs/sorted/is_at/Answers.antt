use Rattle.std.proofs.Common.{◌≡◌, ◌≤◌, ◌<◌, ◌==◌, ◌∙◌, ap, sym, is_some, get_or, length, arith}
use Rattle.std.proofs.lemmas.Bool.Decides.{nat_tests}
use Rattle.at_value.specs.Pairs.{value_at, place_in}
use Rattle.at_value.proofs.Places.{tells, past, none_is_not_some}
use Rattle.at_value.proofs.sorted.is_at.Goals as goal

pub returns-in-Some-clause-there : goal.returns-in-Some-clause-there
returns-in-Some-clause-there c =
    let in_list : place_in c.args.n c.args.items.now < length c.args.items.now = omega (arith, c.in-Some.ensures.lookup.3.0) in
    let here : c.in-Some.pair.now ≡ get_or c.args.items.now (place_in c.args.n c.args.items.now) c.in-Some.pair.now = rw c.requires.place at c.in-Some.ensures.lookup.1 in
    let same : c.eq.result ≡ is_some (value_at c.args.n c.args.items.now) =
    c.eq.ensures ∙ ap (λ p. p.0 == c.args.n) here ∙ tells c.args.n c.in-Some.pair.now c.args.items.now c.requires.rising in_list
    in
    (λ yes. sym same ∙ yes, λ there. same ∙ there)

pub returns-in-None-clause-there : goal.returns-in-None-clause-there
returns-in-None-clause-there c =
    let past_end : length c.args.items.now ≤ place_in c.args.n c.args.items.now = grind (arith, nat_tests, c.in-None.ensures.lookup, c.requires.place) in
    let none = past c.args.n c.args.items.now past_end in
    (λ no. absurd (cc), λ there. absurd (none_is_not_some _ none there))
