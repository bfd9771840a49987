use Rattle.std.proofs.Common.{◌∙◌, ap}
use Rattle.at_core.specs.declared.lock.Lock.TheVariants as locks
use Rattle.at_core.specs.Steps.{given}
use Rattle.at_core.proofs.PassSteps.{same_then}
use Rattle.at_core.proofs.ClosingTypes.{types_back}
use Rattle.at_core.proofs.close_world.give_types.Goals as goal

pub returns-clause-back : goal.returns-clause-back
returns-clause-back c =
    let put = c.slot_in.ensures.same in
    types_back c.args.pass.now c.unlock.new.pass (same_then c.args.pass.now c.slot_in.new.pass c.unlock.new.pass put.0 c.unlock.ensures.same.0) c.requires.types.only
    (c.unlock.ensures.given ∙ ap (given locks.Types) put.2)
