use Rattle.std.proofs.Common.{vec_capacity}
use Rattle.at_thread.specs.Threads.{state_of}
use Rattle.at_run.specs.Blocks.{Stands}
use Rattle.at_run.proofs.plain_run.run_threads.Given as goal

abbrev pub invariant-loop-thread : goal.invariant-loop-thread
invariant-loop-thread l = Stands l.script l.variables l.thread l.plain l.lines.items (vec_capacity l.lines) (state_of l.executing)
