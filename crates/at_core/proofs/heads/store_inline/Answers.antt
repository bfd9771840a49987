use Rattle.std.proofs.Common.{◌≡◌, ◌<◌, ℕ, IsTrue, sym, subst, refl, arith}
use Rattle.std.proofs.lemmas.Bool.Decides.{nat_tests}
use mathlib.Core.Option.{none}
use Rattle.atomic_table.specs.Table.{Allows, step}
use Rattle.at_value.specs.Widths.{objects}
use Rattle.at_model.specs.World.{opening}
use Rattle.at_view.specs.Words.{number_of, inline_value, is_there}
use Rattle.at_view.proofs.WordLaws.{inside}
use Rattle.at_core.specs.HeadPlays.{StoresInline}
use Rattle.at_core.specs.HeadSteps.{inline_stored}
use Rattle.at_core.specs.Rule.{Base}
use Rattle.at_core.proofs.AllowedStores.{stores_inline, held_row}
use Rattle.at_core.proofs.PassSteps.{pass_after, same_after}
use Rattle.at_core.proofs.heads.store_inline.Goals as goal

pub store-requires : goal.store-requires
store-requires c =
    let o = c.args.o in
    let i = c.args.i in
    let word = c.args.word in
    let p = c.args.pass.now in
    let me = p.seat.me in
    let table = c.args.world.now.table.shared in
    let small : c.args.o < objects = omega arith in
    let few = c.requires.may.index in
    let there : IsTrue (is_there (inline_value o i)) = grind (arith, nat_tests, small, few) in
    let room : number_of (inline_value o i) < table.table_id.words = subst (λ (n : ℕ). number_of (inline_value o i) < n) (sym c.args.world.now.sized.0) (inside (inline_value o i) there) in
    let Q : ℕ → Type 0 = λ n. (n < table.table_id.words) × Allows (Base opening table.key) table.table_id.slots p.seat.id me n (λ _. word) (λ _. StoresInline (step table.table_id.slots n word 0 none) me word) in
    let owed = subst Q (sym c.inline_value.ensures) (room, stores_inline opening table.key table.table_id.slots p.seat.id o i word me p.live small c.requires.may) in
    (c.requires.of.table, owed.0, owed.1)

-- the pass after the step
stored : (c : goal.After-store) → c.store.new.seat.me ≡ (inline_stored c.args.pass.now.seat.me.0 c.args.o c.args.i c.args.word, c.args.pass.now.seat.me.1)
stored c = let small : c.args.o < objects = omega arith in c.store.ensures.2 c.args.o c.args.i small c.requires.may.index c.inline_value.ensures

pub invariant_of-pass : goal.invariant_of-pass
invariant_of-pass c =
    let p = c.args.pass.now in
    let v = p.seat.me.0 in
    let f = pass_after p (inline_stored v c.args.o c.args.i c.args.word) p.online c.store.new.seat.me (stored c) (record { live = refl; number = refl; turned = p.turned; holds = λ l. held_row l c.args.o _ _ v }) in
    record { live = f.live; numbered = f.numbered; turned = f.turned; listed = f.listed; once = f.once; within = f.within; right = f.right }

pub returns-clause-same : goal.returns-clause-same
returns-clause-same c =
    let small : c.args.o < objects = omega arith in
    same_after c.args.pass.now _ c.args.world.now (inline_stored c.args.pass.now.seat.me.0 c.args.o c.args.i c.args.word) c.store.ensures.0 c.store.ensures.1 refl refl
    (c.store.ensures.2 c.args.o c.args.i small c.requires.may.index c.inline_value.ensures) refl c.requires.of
