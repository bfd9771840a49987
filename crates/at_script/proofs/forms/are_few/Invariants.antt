use Rattle.std.proofs.Common.{◌≡◌, ◌+◌, length}
use Rattle.at_value.specs.Widths as widths
use Rattle.at_script.specs.Views.{words_left}
use Rattle.at_script.proofs.forms.are_few.Given as goal

-- so many words are left to come as were, without those that came
abbrev pub invariant-loop : goal.invariant-loop
invariant-loop l =
    (goal.iterator-loop).can_next l.iterator' × (goal.iterator-loop).is_finite l.iterator'
    × (length (words_left l.iterator') + widths.most_bases ≡ length (words_left l.fn.words) + l.left)
