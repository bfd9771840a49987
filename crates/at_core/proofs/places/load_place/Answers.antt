use Rattle.std.proofs.Common.{◌<◌, ℕ, sym, subst, refl}
use Rattle.at_model.specs.World.{opening}
use Rattle.at_view.specs.Words.{number_of, place}
use Rattle.at_view.proofs.WordLaws.{inside}
use Rattle.at_core.specs.PlaceSteps.{place_loaded}
use Rattle.at_core.proofs.AllowedPlaces.{loads_place}
use Rattle.at_core.proofs.LockLemmas.{held_seen}
use Rattle.at_core.proofs.PassSteps.{pass_after}
use Rattle.at_core.proofs.places.load_place.Goals as goal

pub load-requires : goal.load-requires
load-requires c =
    let seat = c.args.pass.now.seat in
    let table = c.args.world.now.table.shared in
    let room : number_of place < table.table_id.words = subst (λ (n : ℕ). number_of place < n) (sym c.args.world.now.sized.0) (inside place refl) in
    (c.requires.of.table, room, loads_place opening table.key table.table_id.slots seat.id seat.me c.args.pass.now.live)

pub invariant_of-pass : goal.invariant_of-pass
invariant_of-pass c =
    let p = c.args.pass.now in
    let v = p.seat.me.0 in
    let told = c.load.ensures.2 refl in
    let f = pass_after p (place_loaded v told.0) p.online c.load.new.seat.me told.2 (record { live = refl; number = refl; turned = p.turned; holds = λ l. held_seen l v told.0 }) in
    record { live = f.live; numbered = f.numbered; turned = f.turned; listed = f.listed; once = f.once; within = f.within; right = f.right }
