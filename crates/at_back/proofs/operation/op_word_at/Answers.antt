use Rattle.at_text.specs.Tables.{op_word}
use Rattle.at_text.specs.Tables.{all_op_words}
use Rattle.at_back.proofs.Choices.{found_word, other_word}
use Rattle.at_back.proofs.operation.op_word_at.Goals as goal

pub returns-then-past : goal.returns-then-past
returns-then-past c =
    found_word op_word all_op_words _ c.loop-word.word-index _ c.text.result.now c.loop-word.text c.past.new.self c.args.text.now c.past.result
    c.loop-word.invariant.all c.loop-word-test.true c.text.ensures c.past.ensures.word c.loop-word.invariant.here c.if-past.true

pub loop-word-preserved : goal.loop-word-preserved
loop-word-preserved c = record {
  all = c.loop-word.invariant.all;
  here =
      other_word op_word all_op_words _ c.loop-word.word-index _ c.text.result.now c.loop-word.text c.past.new.self c.args.text.now c.past.result
      c.loop-word.invariant.all c.loop-word-test.true c.text.ensures c.past.ensures.word c.loop-word.invariant.here c.if-past.false (c.past.ensures.unchanged c.if-past.false);
}
