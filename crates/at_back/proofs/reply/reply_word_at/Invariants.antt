use Rattle.std.proofs.Common.{◌≡◌, drop}
use Rattle.at_text.specs.Readers.{choice}
use Rattle.at_text.specs.Tables.{reply_word}
use Rattle.at_text.specs.Tables.{all_reply_words}
use Rattle.at_back.proofs.Choices.{alone}
use Rattle.at_back.proofs.reply.reply_word_at.Given as goal

-- what is left of the table gives the answer
abbrev pub invariant-loop-word : goal.invariant-loop-word
invariant-loop-word l = record {
  all : l.word-items ≡ all_reply_words;
  here : choice (alone reply_word (drop l.word-index all_reply_words)) l.text ≡ choice (alone reply_word all_reply_words) l.initial.text;
}
