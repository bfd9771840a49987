use Rattle.std.proofs.Common.{◌≤◌, arith}
use Rattle.at_view.specs.Counts.{keys}
use Rattle.at_core.proofs.Closing.{are_keys, have_grown}
use Rattle.at_core.proofs.object_end.load_keys.Goals as goal

pub returns-clause-keys : goal.returns-clause-keys
returns-clause-keys c = are_keys c.args.pass.now c.loop-i.pass c.args.c c.loop-i.i c.loop-i.keys (let all : keys ≤ c.loop-i.i = omega arith in all) c.loop-i.invariant.1

pub returns-clause-grown : goal.returns-clause-grown
returns-clause-grown c = have_grown c.args.pass.now c.loop-i.pass c.args.c c.loop-i.i c.loop-i.keys (let all : keys ≤ c.loop-i.i = omega arith in all) c.loop-i.invariant.1
