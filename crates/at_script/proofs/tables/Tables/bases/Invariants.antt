use Rattle.std.proofs.Common.{◌≡◌, ◌≤◌, ◌+◌, length, true, [], Ok}
use Rattle.std.specs.Prelude.{IfOk}
use Rattle.std.specs.List.{list_all}
use Rattle.at_value.specs.Widths as widths
use Rattle.at_script.specs.Views.{words_left}
use Rattle.at_script.specs.Words.{is_identifier}
use Rattle.at_script.specs.Reading.{texts_in}
use Rattle.at_script.specs.Taking.{bases_taken}
use Rattle.at_script.proofs.tables.Tables.bases.Given as goal

-- what is left gives the answer; the words that are left are identifiers, and there is room for their classes
abbrev pub invariant-loop-word : goal.invariant-loop-word
invariant-loop-word l = record {
  can_next : (goal.iterator-loop-word).can_next l.word-iterator;
  is_finite : (goal.iterator-loop-word).is_finite l.word-iterator;
  answer : bases_taken l.self.earlier (texts_in l.self) l.bases (words_left l.word-iterator) ≡ bases_taken l.self.earlier (texts_in l.self) (Ok []) (words_left l.fn.words);
  forms : list_all is_identifier (words_left l.word-iterator) ≡ true;
  room : IfOk l.bases (λ classes. length classes + length (words_left l.word-iterator) ≤ widths.most_bases);
}
