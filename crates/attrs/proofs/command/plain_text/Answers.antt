use Rattle.std.proofs.Common.{ap, sym, subst, arith, List, ℕ, length, Err}
use Rattle.at_source.specs.Whole.{GaveAll}
use Rattle.attrs.specs.Answers.{source_change, IsPlainAndLegal}
use Rattle.attrs.proofs.Answered.{answered, plain_of, legal_of}
use Rattle.attrs.proofs.command.plain_text.Goals as goal

pub returns-in-Ok-clause-plain : goal.returns-in-Ok-clause-plain
returns-in-Ok-clause-plain g c =
    let Gave : List ℕ → Type 0 = GaveAll (g.S.Source.left c.args.src.now) (g.S.Source.left c.read_all.new.source) in
    plain_of _ _ c.answer.result (
    answered IsPlainAndLegal _ _ c.deref.result.now c.answer.result (
      subst Gave (sym c.deref.ensures.value) c.in-Ok.ensures.whole,
      (let short = c.in-Ok.ensures.short in let same = ap length c.deref.ensures.value in omega arith),
      c.in-Ok.ensures.no_fault (λ failed. cc),
    )
    c.answer.ensures.answer
    )

pub returns-in-Ok-clause-legal : goal.returns-in-Ok-clause-legal
returns-in-Ok-clause-legal g c =
    let Gave : List ℕ → Type 0 = GaveAll (g.S.Source.left c.args.src.now) (g.S.Source.left c.read_all.new.source) in
    legal_of _ _ c.answer.result (
    answered IsPlainAndLegal _ _ c.deref.result.now c.answer.result (
      subst Gave (sym c.deref.ensures.value) c.in-Ok.ensures.whole,
      (let short = c.in-Ok.ensures.short in let same = ap length c.deref.ensures.value in omega arith),
      c.in-Ok.ensures.no_fault (λ failed. cc),
    )
    c.answer.ensures.answer
    )

pub returns-in-Err-TooLong-clause-plain : goal.returns-in-Err-TooLong-clause-plain
returns-in-Err-TooLong-clause-plain g c =
    let long = c.in-Err-TooLong.field-0-is in
    plain_of _ _ c.too_long.result (
    c.too_long.ensures.answer (source_change g.S.Source.left g.S.Source.faults c.args.src.now c.read_all.new.source)
    (c.in-Err-TooLong.ensures.long (ap (λ f. Err f) long), c.in-Err-TooLong.ensures.no_fault (λ failed. cc))
    )

pub returns-in-Err-TooLong-clause-legal : goal.returns-in-Err-TooLong-clause-legal
returns-in-Err-TooLong-clause-legal g c =
    let long = c.in-Err-TooLong.field-0-is in
    legal_of _ _ c.too_long.result (
    c.too_long.ensures.answer (source_change g.S.Source.left g.S.Source.faults c.args.src.now c.read_all.new.source)
    (c.in-Err-TooLong.ensures.long (ap (λ f. Err f) long), c.in-Err-TooLong.ensures.no_fault (λ failed. cc))
    )
