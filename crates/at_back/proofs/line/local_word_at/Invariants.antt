use Rattle.std.proofs.Common.{◌≡◌, drop}
use Rattle.at_text.specs.Readers.{choice}
use Rattle.at_text.specs.Tables.{local_word}
use Rattle.at_text.specs.Tables.{all_local_words}
use Rattle.at_back.proofs.Choices.{alone}
use Rattle.at_back.proofs.line.local_word_at.Given as goal

-- what is left of the table gives the answer
abbrev pub invariant-loop-word : goal.invariant-loop-word
invariant-loop-word l = record {
  all : l.word-items ≡ all_local_words;
  here : choice (alone local_word (drop l.word-index all_local_words)) l.text ≡ choice (alone local_word all_local_words) l.initial.text;
}
