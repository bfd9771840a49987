use Rattle.std.proofs.Common.{◌≡◌, ◌∙◌, sym, ap, subst, ℕ, ◌+◌, arith, List, [], ◌++◌, length, length-append, append-nil, append_assoc, refl}
use Rattle.at_line.specs.declared.line.Line.{Line}
use Rattle.at_script.specs.Parts.{ScriptParts}
use Rattle.at_thread.specs.Execution.{ThreadState, next_of}
use Rattle.at_thread.specs.Threads.{state_of}
use Rattle.at_thread.proofs.Steps.{Few, size, next_onward}
use Rattle.at_thread.proofs.Leading.{start_few, step_onward}
use Rattle.at_thread.proofs.Alone.{numbered_both, numbered_length}
use Rattle.at_thread.specs.Runs.{numbered_lines}
use Rattle.at_run.specs.Blocks.{IsAtStart}
use Rattle.at_run.proofs.Turning.{leading_start, leading_turn, room_for}
use Rattle.at_run.proofs.plain_run.run_block.Goals as goal

few_at_start : (p : ScriptParts) (s : ThreadState) → IsAtStart s → Few p 0 s
few_at_start p s begins = subst (Few p 0) (sym begins.2) (start_few p begins.0 begins.1)

pub loop-init : goal.loop-init
loop-init c = record {
  made = (
    [],
    sym (append-nil c.args.lines.now.items),
    refl,
    leading_start c.args.script.now (state_of c.args.executing.now) c.args.plain.now,
    few_at_start c.args.script.now (state_of c.args.executing.now) c.requires.begins,
  );
  room = c.requires.room;
  same = refl;
  most = c.requires.budget;
}

pub take_turn-requires : goal.take_turn-requires
take_turn-requires c =
    let p = c.args.script.now in
    let s = state_of c.loop.executing in
    let made = c.loop.invariant.made in
    let number = made.2 in
    let written = ap length made.1 ∙ length-append c.args.lines.now.items (numbered_lines c.args.thread 1 made.0) in
    let own = numbered_length c.args.thread 1 made.0 in
    room_for p (size p s) c.loop.number (length c.args.lines.now.items) (length c.loop.lines.items) _ (next_of p s)
    (next_onward p c.loop.number s (subst (λ (k : ℕ). Few p k s) (sym number) made.4))
    c.loop.invariant.most (omega arith) c.loop.invariant.room

pub loop-smaller : goal.loop-smaller
loop-smaller c =
    let h = rw c.if-branch.true at c.in_ok-take_turn.ensures.turned in
    let made = c.loop.invariant.made in
    (step_onward c.args.script.now (length made.0) (state_of c.loop.executing) h.says (state_of c.take_turn.new.executing) made.4 h.moves).0

pub loop-preserved : goal.loop-preserved
loop-preserved c =
    let h = rw c.if-branch.true at c.in_ok-take_turn.ensures.turned in
    let p = c.args.script.now in
    let made = c.loop.invariant.made in
    let thread = c.args.thread in
    let before = c.args.lines.now.items in
    let t = state_of c.take_turn.new.executing in
    let few = (step_onward p (length made.0) (state_of c.loop.executing) h.says t made.4 h.moves).1 in
    let count : length (made.0 ++ h.says) ≡ length made.0 + length h.says = length-append made.0 h.says in
    let next : c.loop.number + 1 ≡ 1 + length made.0 = omega (arith, made.2) in
    let capacity = c.in_ok-take_turn.ensures.capacity in
    let same = c.loop.invariant.same in
    let room = c.loop.invariant.room in
    record {
      made = (
        made.0 ++ h.says,
        h.lines
            ∙ (ap (λ (lines : List Line). lines ++ numbered_lines thread (c.loop.number + 1) h.says) made.1
            ∙ (append_assoc before (numbered_lines thread 1 made.0) (numbered_lines thread (c.loop.number + 1) h.says)
            ∙ ap (λ (lines : List Line). before ++ lines) (sym (numbered_both thread 1 (c.loop.number + 1) made.0 h.says next)))),
        h.count ∙ (ap (λ (n : ℕ). n + length h.says) made.2 ∙ sym count),
        leading_turn p _ _ made.0 (state_of c.loop.executing) t c.loop.plain c.take_turn.new.plain h.says made.3 h.moves h.tells,
        subst (λ (k : ℕ). Few p k t) (sym count) few,
      );
      room = omega (arith, capacity, room);
      same = omega (arith, capacity, same);
      most = c.loop.invariant.most;
    }
