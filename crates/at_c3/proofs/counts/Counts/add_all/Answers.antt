use Rattle.std.proofs.Common.{◌≡◌, ◌∙◌, ◌<◌, ◌+◌, ap, sym, subst, ℕ, List, [], ◌∷◌, ◌++◌, take, get_or, length, append_assoc, arith, length-append, length-take-le}
use Rattle.std.proofs.lemmas.List.{take_more, take_all}
use Rattle.at_c3.specs.Counts.{AreCountsOf}
use Rattle.at_c3.proofs.counts.Counts.add_all.Goals as goal

pub loop-number-preserved : goal.loop-number-preserved
loop-number-preserved c = λ before are.
    let numbers = c.args.numbers.now in
    let i = c.loop-number.number-index in
    let Are : List ℕ → Type 0 = λ counted. AreCountsOf c.add.new.self.counts.items counted in
    subst Are (append_assoc before (take i numbers) (get_or numbers i 0 ∷ []) ∙ ap (λ l. before ++ l) (sym (take_more numbers i 0 c.loop-number-test.true)))
    (c.in_ok-add.ensures.counted (before ++ take i numbers) (c.loop-number.invariant before are))

pub returns-clause-counted : goal.returns-clause-counted
returns-clause-counted c = λ before are.
    let Are : List ℕ → Type 0 = λ counted. AreCountsOf c.loop-number.self.counts.items counted in
    subst Are (ap (λ l. before ++ l) (take_all c.loop-number.number-index c.args.numbers.now (omega arith))) (c.loop-number.invariant before are)

pub returns-in_err-add-clause-room : goal.returns-in_err-add-clause-room
returns-in_err-add-clause-room c = λ before are small fits.
    let numbers = c.args.numbers.now in
    let i = c.loop-number.number-index in
    let below : i < length numbers = c.loop-number-test.true in
    let len : length (before ++ take i numbers) ≡ length before + i = length-append before (take i numbers) ∙ ap (λ k. length before + k) (length-take-le i numbers (omega arith)) in
    let no = c.in_err-add.ensures.room (before ++ take i numbers) (c.loop-number.invariant before are) (small i _ below) (omega (arith, len, below, fits)) in
    absurd (cc)
