use Rattle.std.proofs.Common.{ap, arith}
use Rattle.at_view.specs.declared.view.View.{View}
use Rattle.at_core.specs.Passes.{view}
use Rattle.at_lock.proofs.tests.passes_run_out.Goals as goal

pub loop-init : goal.loop-init
loop-init g c = (c.requires.of, c.requires.out)

pub split-requires-clause-of : goal.split-requires-clause-of
split-requires-clause-of g c = c.loop.invariant.0

pub split-requires-clause-out : goal.split-requires-clause-out
split-requires-clause-out g c = c.loop.invariant.1

pub loop-preserved : goal.loop-preserved
loop-preserved g c = (c.split.ensures.same.1, c.split.ensures.out)

pub split-requires-2-clause-of : goal.split-requires-2-clause-of
split-requires-2-clause-of g c = c.loop.invariant.0

pub split-requires-2-clause-out : goal.split-requires-2-clause-out
split-requires-2-clause-out g c = c.loop.invariant.1

pub join-requires-clause-may : goal.join-requires-clause-may
join-requires-clause-may g c =
    let last = view c.in_ok-last.last in
    let more = c.split-3.ensures.children last.history.birth in
    let child = c.in_ok-last.ensures.child in
    record {
      child = omega arith;
      closed = ap (λ (v : View). v.write.writing) c.in_ok-last.ensures.ok.begins.after;
    }
