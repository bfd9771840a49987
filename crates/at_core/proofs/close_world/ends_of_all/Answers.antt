use Rattle.at_core.specs.Closing.{now_of}
use Rattle.at_core.specs.Passes.{view}
use Rattle.at_core.proofs.ClosingTypes.{now_formed}
use Rattle.at_core.proofs.close_world.ends_of_all.Goals as goal

pub ends_of_classes-requires : goal.ends_of_classes-requires
ends_of_classes-requires c =
    let limits = c.args.world.now.limits in
    let v = view c.args.pass.now in
    (now_of limits v, c.requires.stands, now_formed limits v)
