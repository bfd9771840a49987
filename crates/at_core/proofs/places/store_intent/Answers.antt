use Rattle.std.proofs.Common.{◌≡◌, ◌<◌, ℕ, IsTrue, sym, ap, ◌∙◌, subst, refl, arith}
use Rattle.std.proofs.lemmas.Bool.Decides.{nat_tests}
use mathlib.Core.Option.{none}
use Rattle.atomic_table.specs.Table.{Allows, step}
use Rattle.at_model.specs.World.{opening}
use Rattle.at_view.specs.Counts.{passes}
use Rattle.at_view.specs.Words.{number_of, intent, is_there}
use Rattle.at_view.proofs.WordLaws.{inside}
use Rattle.at_core.specs.PlacePlays.{StoresIntent}
use Rattle.at_core.specs.PlaceSteps.{intent_stored}
use Rattle.at_core.specs.Rule.{Base}
use Rattle.at_core.proofs.AllowedPlaces.{stores_intent}
use Rattle.at_core.proofs.QuietSteps.{intent_quiet, holds_quiet}
use Rattle.at_core.proofs.PassSteps.{pass_after}
use Rattle.at_core.proofs.places.store_intent.Goals as goal

pub store-requires : goal.store-requires
store-requires c =
    let p = c.args.pass.now in
    let me = p.seat.me in
    let j = c.args.j in
    let word = c.args.word in
    let table = c.args.world.now.table.shared in
    let small = p.numbered.1 in
    let less = c.requires.index in
    let there : IsTrue (is_there (intent p.number j)) = grind (arith, nat_tests, small, less) in
    let room : number_of (intent p.number j) < table.table_id.words = subst (λ (n : ℕ). number_of (intent p.number j) < n) (sym c.args.world.now.sized.0) (inside (intent p.number j) there) in
    let Q : ℕ → Type 0 = λ n. Allows (Base opening table.key) table.table_id.slots p.seat.id me n (λ _. word) (λ _. StoresIntent (step table.table_id.slots n word 0 none) me word) in
    let is : number_of (intent me.0.who.number j) ≡ c.intent.result = ap (λ (n : ℕ). number_of (intent n j)) p.numbered.0 ∙ sym c.intent.ensures in (
      c.requires.of.table,
      subst (λ (n : ℕ). n < table.table_id.words) (sym c.intent.ensures) room,
      subst Q is (stores_intent opening table.key table.table_id.slots p.seat.id j word me p.live less (subst (λ (n : ℕ). n < passes) (sym p.numbered.0) small)),
    )

-- the pass after the step
stored : (c : goal.After-store) → c.store.new.seat.me ≡ (intent_stored c.args.pass.now.seat.me.0 c.args.j c.args.word, c.args.pass.now.seat.me.1)
stored c = c.store.ensures.2 c.args.j c.requires.index (c.intent.ensures ∙ ap (λ (n : ℕ). number_of (intent n c.args.j)) (sym c.args.pass.now.numbered.0))

pub invariant_of-pass : goal.invariant_of-pass
invariant_of-pass c =
    let p = c.args.pass.now in
    let v = p.seat.me.0 in
    let w = intent_stored v c.args.j c.args.word in
    let f = pass_after p w p.online c.store.new.seat.me (stored c) (record { live = refl; number = refl; turned = p.turned; holds = holds_quiet v w (intent_quiet v c.args.j c.args.word) }) in
    record { live = f.live; numbered = f.numbered; turned = f.turned; listed = f.listed; once = f.once; within = f.within; right = f.right }
