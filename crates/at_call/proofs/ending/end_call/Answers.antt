use Rattle.at_call.proofs.Keeping.{right_agree}
use Rattle.at_call.proofs.UnderWays.{done_ended, from_ended, leaves_ended}
use Rattle.at_call.proofs.ending.end_call.Goals as goal

pub end_types-requires-clause-right : goal.end_types-requires-clause-right
end_types-requires-clause-right g c = right_agree c.args.pass.now c.args.types c.requires.back

pub returns-clause-from : goal.returns-clause-from
returns-clause-from g c = from_ended c.args.pass.now c.end_types.new.pass c.end_types.result c.end_types.ensures.ended

pub returns-clause-own : goal.returns-clause-own
returns-clause-own g c = c.end_types.ensures.ended.left.own

pub returns-clause-leaves : goal.returns-clause-leaves
returns-clause-leaves g c ls p u = leaves_ended ls p c.args.pass.now c.end_types.new.pass c.end_types.result u c.end_types.ensures.ended

pub returns-clause-done : goal.returns-clause-done
returns-clause-done g c ls p operation answer u a = done_ended ls p c.args.pass.now c.end_types.new.pass c.end_types.result operation answer u c.end_types.ensures.ended a
