use Rattle.std.proofs.Common.{◌<◌, List, length, subst, sym}
use Rattle.at_value.specs.Types.{Path}
use Rattle.at_text.specs.Lines.{path_item}
use Rattle.at_text.specs.ReadLines as read_lines
use Rattle.at_text.specs.Tables.{all_paths}
use Rattle.at_back.proofs.Choices.{found_word, other_word}
use Rattle.at_back.proofs.line.path_item_at.Goals as goal

pub returns-then-past : goal.returns-then-past
unfolding read_lines.path_item_at
returns-then-past c =
    found_word path_item all_paths _ c.loop-path.path-index _ c.path_text.result.now c.loop-path.text c.past.new.self c.args.text.now c.past.result
    c.loop-path.invariant.all (subst (λ (l : List Path). c.loop-path.path-index < length l) (sym c.loop-path.invariant.all) c.loop-path-test.true) c.path_text.ensures c.past.ensures.word c.loop-path.invariant.here c.if-past.true

pub loop-path-preserved : goal.loop-path-preserved
loop-path-preserved c = record {
  all = c.loop-path.invariant.all;
  here =
      other_word path_item all_paths _ c.loop-path.path-index _ c.path_text.result.now c.loop-path.text c.past.new.self c.args.text.now c.past.result
      c.loop-path.invariant.all (subst (λ (l : List Path). c.loop-path.path-index < length l) (sym c.loop-path.invariant.all) c.loop-path-test.true) c.path_text.ensures c.past.ensures.word c.loop-path.invariant.here c.if-past.false (c.past.ensures.unchanged c.if-past.false);
}
