use Rattle.std.proofs.Common.{◌≡◌, length}
use Rattle.at_script.specs.Views.{parts_after, words_left}
use Rattle.at_script.proofs.lines.WordsIterator.next.Given as goal

-- the words that are left are those of the start
abbrev pub invariant-loop-self : goal.invariant-loop-self
invariant-loop-self l = words_left l.self ≡ words_left l.initial.self

abbrev pub decreases-loop-self : goal.decreases-loop-self
decreases-loop-self l = length (parts_after l.self.rest)
