use Rattle.at_core.specs.Passes.{view}
use Rattle.at_section.proofs.Begun.{kept_now}
use Rattle.at_call.proofs.Keeping.{agree_right, hand_kept}
use Rattle.at_call.proofs.UnderWays.{under_begins}
use Rattle.at_call.proofs.beginning.begin_call.Goals as goal

pub returns-clause-under : goal.returns-clause-under
returns-clause-under g c = under_begins c.args.a c.args.b c.args.pass.now c.begin_types.new.pass _ c.requires.surface c.begin_types.ensures.begun

pub returns-clause-unwritten : goal.returns-clause-unwritten
returns-clause-unwritten g c = c.begin_types.ensures.begun.left.own

pub returns-clause-hand : goal.returns-clause-hand
returns-clause-hand g c =
    let q = c.begin_types.new.pass in
    hand_kept q c.begin_types.result.value c.begin_types.ensures.surface.out.held (kept_now (view q) _ c.begin_types.ensures.begun.loaded) (agree_right (view q) c.begin_types.result c.begin_types.ensures.right)

pub returns-clause-rows : goal.returns-clause-rows
returns-clause-rows g c = c.begin_types.ensures.begun.has
