use Rattle.at_core.proofs.ClosingTypes.{types_stay}
use Rattle.at_core.proofs.close_world.last_of.Goals as goal

pub give_types-requires-clause-types : goal.give_types-requires-clause-types
give_types-requires-clause-types c =
    types_stay c.args.world.now.limits c.take_types-types.new.pass c.ends_of_all-last.new.pass c.take_types-types.result.value c.ends_of_all-last.ensures.read c.take_types-types.ensures.types
