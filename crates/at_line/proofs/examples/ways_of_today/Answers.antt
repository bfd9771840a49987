use Rattle.std.proofs.Common.{lit<}
use Rattle.at_line.specs.LineExamples.{line_in, does, gets_five, gives_seven}
use Rattle.at_line.proofs.examples.ways_of_today.Goals as goal

pub returns-clause-fast : goal.returns-clause-fast
returns-clause-fast c = λ allowed. absurd (cc (allowed 13 (line_in 0 0 (does 0 gets_five gives_seven)) (lit< tt)))
