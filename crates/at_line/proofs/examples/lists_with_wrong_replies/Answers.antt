use Rattle.std.proofs.Common.{ℕ, refl, ap, inl, inr, arith, lit<}
use Rattle.std.proofs.lemmas.Bool.{false≢true}
use Rattle.at_value.specs.declared.reply.Reply.TheVariants as replies
use Rattle.at_line.specs.declared.line.LineReply as line_reply
use Rattle.at_line.specs.declared.line.LineReply.TheVariants as line_replies
use Rattle.at_line.specs.LineExamples.{line_in, does, gets_five, gives_seven}
use Rattle.at_line.proofs.examples.lists_with_wrong_replies.Goals as goal

-- the number of the object that was made, else 9
made_number : line_reply.LineReply → ℕ
made_number (line_replies.Of (replies.Made o init)) = o
made_number reply = 9

pub returns-clause-made : goal.returns-clause-made
unfolding made_number
returns-clause-made c = λ all. let wrong = ap made_number (all 1 (line_in 0 0 (does 0 gets_five gives_seven)) (lit< tt) refl).0 in absurd (omega (arith, wrong))

pub returns-clause-done : goal.returns-clause-done
returns-clause-done c = λ all. absurd (false≢true (all 4 (line_in 0 0 (does 0 gets_five gives_seven)) (lit< tt) refl).1)

pub returns-clause-past : goal.returns-clause-past
returns-clause-past c = λ all. let wrong = ((all 5 (line_in 0 0 (does 0 gets_five gives_seven)) (lit< tt)).0 refl).0 in absurd (omega (arith, wrong))

pub returns-clause-before : goal.returns-clause-before
returns-clause-before c = λ all. absurd (cc (((all 5 (line_in 0 0 (does 0 gets_five gives_seven)) (lit< tt)).0 refl).1))

pub returns-clause-suspended : goal.returns-clause-suspended
returns-clause-suspended c = λ all. absurd (cc ((all 3 (line_in 0 0 (does 0 gets_five gives_seven)) (lit< tt)).1 (inl refl)))

pub returns-clause-suspended_last : goal.returns-clause-suspended_last
returns-clause-suspended_last c = λ all. absurd (cc ((all 15 (line_in 0 0 (does 0 gets_five gives_seven)) (lit< tt)).1 (inr refl)))

pub returns-clause-begin_past : goal.returns-clause-begin_past
returns-clause-begin_past c = λ all. let wrong = (all 14 (line_in 0 0 (does 0 gets_five gives_seven)) (lit< tt)).0 in absurd (omega (arith, wrong))

pub returns-clause-end_past : goal.returns-clause-end_past
returns-clause-end_past c = λ all. let wrong = (all 15 (line_in 0 0 (does 0 gets_five gives_seven)) (lit< tt)).0 in absurd (omega (arith, wrong))
