use Rattle.at_types.proofs.StandingLaws.{opened_stands, refusals_change_nothing, look_ups_stand, object_is_counted}
use Rattle.at_types.proofs.laws.standing_laws.Goals as goal

pub returns-clause-opened : goal.returns-clause-opened
returns-clause-opened c = opened_stands

pub returns-clause-refusals : goal.returns-clause-refusals
returns-clause-refusals c = refusals_change_nothing

pub returns-clause-look_ups : goal.returns-clause-look_ups
returns-clause-look_ups c = look_ups_stand

pub returns-clause-objects : goal.returns-clause-objects
returns-clause-objects c = object_is_counted
