use Rattle.at_value.specs.Words.{HasWord}
use Rattle.at_value.proofs.Words.{word_exact, at_some, at_none}
use Rattle.at_value.proofs.word.from_word.Goals as goal

pub returns-clause-same : goal.returns-clause-same
returns-clause-same c v = rw c.read_value.ensures (word_exact c.args.w v)

pub returns-clause-some : goal.returns-clause-some
returns-clause-some c = at_some (λ v. HasWord v c.args.w) c.read_value.result (returns-clause-same c)

pub returns-clause-none : goal.returns-clause-none
returns-clause-none c = at_none (λ v. HasWord v c.args.w) c.read_value.result (returns-clause-same c)
