use Rattle.std.proofs.Common.{◌<◌, ℕ, sym, subst, refl}
use Rattle.at_model.specs.World.{opening}
use Rattle.at_view.specs.declared.mark.StepKind.TheVariants as kinds
use Rattle.at_view.specs.Words.{number_of, place}
use Rattle.at_view.proofs.WordLaws.{inside}
use Rattle.at_core.specs.PlaceSteps.{written}
use Rattle.at_core.proofs.AllowedPlaces.{commits}
use Rattle.at_core.proofs.Committing.{held_written}
use Rattle.at_core.proofs.PassSteps.{pass_after}
use Rattle.at_core.proofs.places.commit.Goals as goal

pub fetch_add-requires : goal.fetch_add-requires
fetch_add-requires c =
    let seat = c.args.pass.now.seat in
    let table = c.args.world.now.table.shared in
    let may = c.requires.may in
    let room : number_of place < table.table_id.words = subst (λ (n : ℕ). number_of place < n) (sym c.args.world.now.sized.0) (inside place refl) in
    (c.requires.of.table, room, commits opening table.key table.table_id.slots seat.id seat.me may.0 c.args.pass.now.live may.1)

pub invariant_of-pass : goal.invariant_of-pass
invariant_of-pass c =
    let p = c.args.pass.now in
    let v = p.seat.me.0 in
    let may = c.requires.may in
    let told = c.fetch_add.ensures.2 refl may.0 may.1.write.intends in
    let f = pass_after p (written kinds.Commit v told.0 may.0) p.online c.fetch_add.new.seat.me told.2 (record { live = refl; number = refl; turned = p.turned; holds = λ l. held_written l kinds.Commit v told.0 may.0 }) in
    record { live = f.live; numbered = f.numbered; turned = f.turned; listed = f.listed; once = f.once; within = f.within; right = f.right }
