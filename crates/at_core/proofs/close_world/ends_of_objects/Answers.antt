use Rattle.std.proofs.Common.{ℕ, ◌<◌, ◌+◌, length, subst, refl, arith}
use Rattle.at_core.specs.Closing.{now_of, IsEndOf}
use Rattle.at_core.specs.Passes.{view}
use Rattle.at_core.proofs.ClosingRows.{read_longer, still_alone}
use Rattle.at_core.proofs.ClosingTypes.{now_formed, object_more}
use Rattle.at_core.proofs.close_world.ends_of_objects.Goals as goal

-- no number of an object is out of range
pub returns-in_default-clause-ends : goal.returns-in_default-clause-ends
returns-in_default-clause-ends c =
    let few = (now_formed c.args.world.now.limits (view c.args.pass.now)).few in
    let test = c.loop-i-test.true in
    let all = c.requires.all in
    let past = c.in_default.ensures.none in
    absurd (omega (arith, few, test, all, past))

pub object_end-requires-clause-only : goal.object_end-requires-clause-only
object_end-requires-clause-only c = still_alone c.args.pass.now c.loop-i.pass c.loop-i.invariant.read c.requires.only

pub loop-i-preserved : goal.loop-i-preserved
loop-i-preserved c =
    let v = view c.args.pass.now in
    let before = c.loop-i.invariant in
    let i = c.loop-i.i in
    let below : c.loop-i.i < length (now_of c.args.world.now.limits v).objects = (let t = c.loop-i-test.true in let all = c.requires.all in omega (arith, t, all)) in
    let ended : IsEndOf (now_of c.args.world.now.limits (view c.loop-i.pass)) c.loop-i.i c.in_ok-object_end.field-0 =
    subst (λ (k : ℕ). IsEndOf (now_of c.args.world.now.limits (view c.loop-i.pass)) k c.in_ok-object_end.field-0) c.in-Some.ensures.some.0 c.in_ok-object_end.ensures.end in
    record {
      of = c.object_end.ensures.of;
      read = read_longer c.args.pass.now c.loop-i.pass c.object_end.new.pass before.read c.object_end.ensures.read;
      ends_are = object_more c.args.world.now.limits v (view c.loop-i.pass) i (c.loop-i.i + 1) c.loop-i.ends.items c.push.new.self.items c.in_ok-object_end.field-0 refl before.read.still below
          before.ends_are ended c.in_ok-push.ensures.items;
    }
