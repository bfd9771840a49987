use Rattle.std.proofs.Common.{◌≡◌, ◌+◌, ◌≤◌, List, ◌++◌, length, vec_capacity}
use Rattle.at_line.specs.declared.line.What as what
use Rattle.at_script.specs.Limits as limits
use Rattle.at_thread.specs.Runs.{numbered_lines}
use Rattle.at_thread.specs.Threads.{state_of}
use Rattle.at_thread.proofs.Steps.{size, Few}
use Rattle.at_run.specs.Blocks.{Leading, most_of}
use Rattle.at_run.proofs.plain_run.run_block.Given as goal

-- the lines so far lead from the block's begin to where the thread stands, and there is room for the others
abbrev pub invariant-loop : goal.invariant-loop
invariant-loop l = record {
  made : (says : List what.What) × (l.lines.items ≡ l.initial.lines.items ++ numbered_lines l.thread 1 says) × (l.number ≡ length says) × Leading l.script (state_of l.initial.executing) l.initial.plain says (state_of l.executing) l.plain × Few l.script (length says) (state_of l.executing);
  room : length l.initial.lines.items + most_of l.script ≤ vec_capacity l.lines;
  same : vec_capacity l.lines ≡ vec_capacity l.initial.lines;
  most : l.script.budget ≤ limits.most_budget;
}

abbrev pub decreases-loop : goal.decreases-loop
decreases-loop l = size l.script (state_of l.executing)
