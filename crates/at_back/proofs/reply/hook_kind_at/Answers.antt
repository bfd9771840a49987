use Rattle.at_text.specs.Lines.{hook_word}
use Rattle.at_text.specs.ReadLines as read_lines
use Rattle.at_text.specs.Tables.{all_hooks}
use Rattle.at_back.proofs.Choices.{found_word, other_word}
use Rattle.at_back.proofs.reply.hook_kind_at.Goals as goal

pub returns-then-past : goal.returns-then-past
unfolding read_lines.hook_at
returns-then-past c =
    found_word hook_word all_hooks _ c.loop-kind.kind-index _ c.hook_text.result.now c.loop-kind.text c.past.new.self c.args.text.now c.past.result
    c.loop-kind.invariant.all c.loop-kind-test.true c.hook_text.ensures c.past.ensures.word c.loop-kind.invariant.here c.if-past.true

pub loop-kind-preserved : goal.loop-kind-preserved
loop-kind-preserved c = record {
  all = c.loop-kind.invariant.all;
  here =
      other_word hook_word all_hooks _ c.loop-kind.kind-index _ c.hook_text.result.now c.loop-kind.text c.past.new.self c.args.text.now c.past.result
      c.loop-kind.invariant.all c.loop-kind-test.true c.hook_text.ensures c.past.ensures.word c.loop-kind.invariant.here c.if-past.false (c.past.ensures.unchanged c.if-past.false);
}
