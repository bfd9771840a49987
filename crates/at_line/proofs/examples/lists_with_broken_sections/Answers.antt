use Rattle.std.proofs.Common.{refl, lit<, lit≤, rules}
use Rattle.at_line.specs.LineExamples.{line_in, makes_class}
use Rattle.at_line.specs.KeptExamples.{ends_kept}
use Rattle.at_line.proofs.examples.lists_with_broken_sections.Goals as goal

pub returns-clause-histories : goal.returns-clause-histories
returns-clause-histories c = (search rules, search rules, search rules, search rules)

pub returns-clause-object : goal.returns-clause-object
returns-clause-object c = λ kept. kept 5 (line_in 1 2 (ends_kept 5)) refl 4 (0, makes_class) (lit< tt) (lit< tt) (lit≤ tt) 0 (0, lit< tt, refl) (0, lit< tt, refl)

pub returns-clause-dictionary : goal.returns-clause-dictionary
returns-clause-dictionary c = λ kept. kept 5 (line_in 1 2 (ends_kept 5)) refl 4 (0, makes_class) (lit< tt) (lit< tt) (lit≤ tt) 0 (0, lit< tt, refl) (1, lit< tt, refl)

pub returns-clause-inner : goal.returns-clause-inner
returns-clause-inner c = λ kept. kept 6 (line_in 1 3 (ends_kept 5)) refl 4 (0, makes_class) (lit< tt) (lit< tt) (lit≤ tt) 1 (0, lit< tt, refl) (0, lit< tt, refl)

pub returns-clause-outer : goal.returns-clause-outer
returns-clause-outer c = λ kept. kept 7 (line_in 1 4 (ends_kept 5)) refl 4 (0, makes_class) (lit< tt) (lit< tt) (lit≤ tt) 0 (0, lit< tt, refl) (0, lit< tt, refl)

pub returns-clause-histories_more : goal.returns-clause-histories_more
returns-clause-histories_more c = (search rules, search rules, search rules, search rules, search rules, search rules, search rules, search rules)

pub returns-clause-second : goal.returns-clause-second
returns-clause-second c = λ kept. kept 4 (line_in 1 2 (ends_kept 4)) refl 3 (0, makes_class) (lit< tt) (lit< tt) (lit≤ tt) 1 (1, lit< tt, refl) (0, lit< tt, refl)

pub returns-clause-deleted : goal.returns-clause-deleted
returns-clause-deleted c = λ kept. kept 6 (line_in 1 2 (ends_kept 6)) refl 5 (0, makes_class) (lit< tt) (lit< tt) (lit≤ tt) 1 (0, lit< tt, refl) (0, lit< tt, refl)

pub returns-clause-dictionary_deleted : goal.returns-clause-dictionary_deleted
returns-clause-dictionary_deleted c = λ kept. kept 6 (line_in 1 2 (ends_kept 6)) refl 5 (0, makes_class) (lit< tt) (lit< tt) (lit≤ tt) 0 (0, lit< tt, refl) (1, lit< tt, refl)

pub returns-clause-class : goal.returns-clause-class
returns-clause-class c = λ kept. kept 5 (line_in 1 2 (ends_kept 5)) refl 4 (0, makes_class) (lit< tt) (lit< tt) (lit≤ tt) 1 (0, lit< tt, refl) (0, lit< tt, refl)

pub returns-clause-taken : goal.returns-clause-taken
returns-clause-taken c = λ kept. kept 4 (line_in 1 2 (ends_kept 4)) refl 3 (0, makes_class) (lit< tt) (lit< tt) (lit≤ tt) 1 (0, lit< tt, refl) (0, lit< tt, refl)

pub returns-clause-given : goal.returns-clause-given
returns-clause-given c = λ kept. kept 4 (line_in 1 2 (ends_kept 4)) refl 3 (0, makes_class) (lit< tt) (lit< tt) (lit≤ tt) 0 (0, lit< tt, refl) (1, lit< tt, refl)

pub returns-clause-past_other_lines : goal.returns-clause-past_other_lines
returns-clause-past_other_lines c = λ kept. kept 6 (line_in 1 4 (ends_kept 4)) refl 3 (0, makes_class) (lit< tt) (lit< tt) (lit≤ tt) 1 (0, lit< tt, refl) (0, lit< tt, refl)

pub returns-clause-named_meanwhile : goal.returns-clause-named_meanwhile
returns-clause-named_meanwhile c = λ kept. kept 6 (line_in 1 2 (ends_kept 7)) refl 6 (0, makes_class) (lit< tt) (lit< tt) (lit≤ tt) 0 (0, lit< tt, refl) (1, lit< tt, refl)
