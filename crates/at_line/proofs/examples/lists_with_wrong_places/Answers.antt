use Rattle.std.proofs.Common.{refl, inl, inr, arith, lit<}
use Rattle.at_value.specs.declared.reply.Reply.TheVariants as replies
use Rattle.at_line.specs.LineExamples.{line_in, does, gets_five, gets_six, sets_six, gives_seven}
use Rattle.at_line.proofs.examples.lists_with_wrong_places.Goals as goal

pub returns-clause-falls : goal.returns-clause-falls
returns-clause-falls c = λ rising. let wrong = (rising 5 (line_in 1 2 (does 2 gets_six replies.NoAttr)) refl 4 (line_in 0 0 (does 0 gets_five gives_seven)) (lit< tt) refl).0 in absurd (omega (arith, wrong))

pub returns-clause-read_before : goal.returns-clause-read_before
returns-clause-read_before c = λ rising. let wrong = (rising 7 (line_in 2 2 (does 4 sets_six replies.Done)) refl 6 (line_in 0 0 (does 0 gets_five gives_seven)) (lit< tt) refl).1 refl in absurd (omega (arith, wrong))

pub returns-clause-thread : goal.returns-clause-thread
returns-clause-thread c = λ turns.
    let wrong = turns 6 (line_in 0 0 (does 0 gets_five gives_seven)) (lit< tt) 1 (line_in 0 0 (does 0 gets_five gives_seven)) (lit< tt) (inl (refl, lit< tt, lit< tt)) in
    absurd (omega (arith, wrong))

pub returns-clause-finally : goal.returns-clause-finally
returns-clause-finally c = λ turns.
    let wrong = turns 13 (line_in 0 0 (does 0 gets_five gives_seven)) (lit< tt) 5 (line_in 0 0 (does 0 gets_five gives_seven)) (lit< tt) (inr (λ same. omega arith, refl)) in
    absurd (omega (arith, wrong))

pub returns-clause-finally_alone : goal.returns-clause-finally_alone
returns-clause-finally_alone c = λ turns.
    let wrong = turns 2 (line_in 0 0 (does 0 gets_five gives_seven)) (lit< tt) 1 (line_in 0 0 (does 0 gets_five gives_seven)) (lit< tt) (inr (λ same. omega arith, refl)) in
    absurd (omega (arith, wrong))

pub returns-clause-last_thread : goal.returns-clause-last_thread
returns-clause-last_thread c = λ turns.
    let wrong = turns 10 (line_in 0 0 (does 0 gets_five gives_seven)) (lit< tt) 1 (line_in 0 0 (does 0 gets_five gives_seven)) (lit< tt) (inl (refl, lit< tt, lit< tt)) in
    absurd (omega (arith, wrong))
