use Rattle.std.proofs.Common.{◌≡◌, drop}
use Rattle.at_text.specs.Readers.{choice}
use Rattle.at_text.specs.Tables.{op_word}
use Rattle.at_text.specs.Tables.{all_op_words}
use Rattle.at_back.proofs.Choices.{alone}
use Rattle.at_back.proofs.operation.op_word_at.Given as goal

-- what is left of the table gives the answer
abbrev pub invariant-loop-word : goal.invariant-loop-word
invariant-loop-word l = record {
  all : l.word-items ≡ all_op_words;
  here : choice (alone op_word (drop l.word-index all_op_words)) l.text ≡ choice (alone op_word all_op_words) l.initial.text;
}
