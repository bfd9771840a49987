use Rattle.std.proofs.Common.{◌≡◌}
use Rattle.std.specs.List.{list_all}
use Rattle.at_script.specs.Words.{is_identifier}
use Rattle.at_script.specs.Views.{words_left}
use Rattle.at_script.proofs.forms.are_identifiers.Given as goal

-- what is left gives the answer
abbrev pub invariant-loop-word : goal.invariant-loop-word
invariant-loop-word l =
    (goal.iterator-loop-word).can_next l.word-iterator × (goal.iterator-loop-word).is_finite l.word-iterator
    × (list_all is_identifier (words_left l.word-iterator) ≡ list_all is_identifier (words_left l.fn.words))
