use Rattle.std.proofs.Common.{◌≡◌, ◌∙◌, ap, length, sym, arith}
use Rattle.std.proofs.lemmas.Option.{same_Some}
use Rattle.at_core.specs.declared.lock.Lock.TheVariants as locks
use Rattle.at_core.specs.Passes.{view}
use Rattle.at_core.proofs.ClosingTypes.{has_types}
use Rattle.at_core.proofs.HandOf.{empty_hand}
use Rattle.at_core.proofs.close_world.take_types.Goals as goal

pub take_alone-requires-clause-out : goal.take_alone-requires-clause-out
take_alone-requires-clause-out c = c.requires.out locks.Types

pub take_alone-requires-clause-room : goal.take_alone-requires-clause-room
take_alone-requires-clause-room c = let e = ap length (empty_hand c.args.pass.now c.requires.out) in omega (arith, e)

pub returns-clause-types : goal.returns-clause-types
returns-clause-types c =
    let got = c.take_alone.ensures.got in
    let x = got.1 in
    let value : x ≡ c.slot_out.result = same_Some _ _ (same_Some _ _ (sym got.3 ∙ c.slot_out.ensures.value)) in
    has_types c.args.world.now.limits c.slot_out.new.pass (view c.args.pass.now) got.0 x c.in-Types.types c.requires.out (c.slot_out.ensures.same.2 ∙ got.2) c.slot_out.ensures.out got.4
    (value ∙ c.in-Types.is)
