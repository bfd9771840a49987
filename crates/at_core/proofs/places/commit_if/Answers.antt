use Rattle.std.proofs.Common.{◌≡◌, ◌≢◌, ◌<◌, ◌+◌, ◌%◌, ◌^◌, ℕ, eqb, length, sym, ap, subst, refl, arith}
use mathlib.Core.Option.{none}
use mathlib.Core.Logic.{dite}
use native.Mathlib.Decide.{ℕ_discrete}
use prog.Atomic.{either}
use Rattle.atomic_table.specs.Table.{Allows, step}
use Rattle.at_value.specs.declared.limits.Limits.{Limits}
use Rattle.at_model.specs.World.{opening}
use Rattle.at_view.specs.declared.mark.StepKind.TheVariants as kinds
use Rattle.at_view.specs.Words.{number_of, place}
use Rattle.at_view.proofs.WordLaws.{inside}
use Rattle.at_core.specs.PlacePlays.{CommitsIf}
use Rattle.at_core.specs.PlaceSteps.{written, unwritten}
use Rattle.at_core.specs.Rule.{Base}
use Rattle.at_core.proofs.AllowedPlaces.{commits_if}
use Rattle.at_core.proofs.Committing.{held_written}
use Rattle.at_core.proofs.PassSteps.{pass_after}
use Rattle.at_core.proofs.QuietSteps.{unwritten_quiet, holds_quiet}
use Rattle.at_core.proofs.places.commit_if.Goals as goal

pub compare_exchange-requires : goal.compare_exchange-requires
compare_exchange-requires c =
    let seat = c.args.pass.now.seat in
    let me = seat.me in
    let table = c.args.world.now.table.shared in
    let may = c.requires.may in
    let seen : ℕ = c.args.seen in
    let room : number_of place < table.table_id.words = subst (λ (n : ℕ). number_of place < n) (sym c.args.world.now.sized.0) (inside place refl) in
    let told : seen ≡ length me.0.history.seen = c.requires.told in
    let next : seen + 1 ≡ (length me.0.history.seen + 1) % 2 ^ 64 =
    (let below = may.1.below in let limit = ap (λ (l : Limits). l.place_max) c.requires.of.limits in let good = c.args.world.now.good.place in omega (arith, told, below, limit, good)) in
    let Q : ℕ → Type 0 = λ g. Allows (Base opening table.key) table.table_id.slots seat.id me (number_of place) (λ n. either (eqb n g) (seen + 1) n) (CommitsIf opening (step table.table_id.slots (number_of place) g (seen + 1) none) me) in
    (c.requires.of.table, room, subst Q (sym told) (commits_if opening table.key table.table_id.slots seat.id me may.0 (seen + 1) c.args.pass.now.live may.1 next))

pub invariant_of-pass : goal.invariant_of-pass
invariant_of-pass c =
    let p = c.args.pass.now in
    let v = p.seat.me.0 in
    let may = c.requires.may in
    let n : ℕ = c.compare_exchange.result in
    let told = c.compare_exchange.ensures.2 refl may.0 may.1.write.intends in
    let f = dite (ℕ_discrete n (length v.history.seen))
    (λ (found : n ≡ length v.history.seen).
    pass_after p (written kinds.CommitIf v v.history.seen may.0) p.online c.compare_exchange.new.seat.me (told.0 found).0 (record { live = refl; number = refl; turned = p.turned; holds = λ l. held_written l kinds.CommitIf v v.history.seen may.0 }))
    (λ (busy : n ≢ length v.history.seen).
    pass_after p (unwritten v n) p.online c.compare_exchange.new.seat.me (told.1 busy).0 (record { live = refl; number = refl; turned = p.turned; holds = holds_quiet v (unwritten v n) (unwritten_quiet v n) })) in
    record { live = f.live; numbered = f.numbered; turned = f.turned; listed = f.listed; once = f.once; within = f.within; right = f.right }
