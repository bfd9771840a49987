use Rattle.std.proofs.Common.{arith, lit<}
use Rattle.at_line.specs.LineExamples.{line_in, does, gets_five, gives_seven}
use Rattle.at_line.proofs.examples.lists_with_wrong_limits_and_paths.Goals as goal

pub returns-clause-full_early : goal.returns-clause-full_early
returns-clause-full_early c = λ met. let wrong = (met 8 (line_in 0 0 (does 0 gets_five gives_seven)) (lit< tt)).0 in absurd (omega (arith, wrong))

pub returns-clause-full_far : goal.returns-clause-full_far
returns-clause-full_far c = λ met. let wrong = (met 8 (line_in 0 0 (does 0 gets_five gives_seven)) (lit< tt)).1 in absurd (omega (arith, wrong))

pub returns-clause-worn_early : goal.returns-clause-worn_early
returns-clause-worn_early c = λ met. let wrong = (met 9 (line_in 0 0 (does 0 gets_five gives_seven)) (lit< tt)).0 in absurd (omega (arith, wrong))

pub returns-clause-worn_far : goal.returns-clause-worn_far
returns-clause-worn_far c = λ met. let wrong = (met 9 (line_in 0 0 (does 0 gets_five gives_seven)) (lit< tt)).1 in absurd (omega (arith, wrong))

pub returns-clause-path : goal.returns-clause-path
returns-clause-path c = λ allowed. absurd (cc (allowed 13 (line_in 0 0 (does 0 gets_five gives_seven)) (lit< tt)))
