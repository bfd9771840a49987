use Rattle.std.proofs.Common.{◌≡◌, ℕ, suc, ◌+◌, ◌<◌, IsTrue, sym, subst, refl, arith}
use Rattle.std.proofs.lemmas.Bool.Decides.{nat_tests}
use mathlib.Core.Option.{none}
use Rattle.atomic_table.specs.Table.{Allows, step}
use Rattle.at_value.specs.Widths.{objects}
use Rattle.at_model.specs.World.{opening}
use Rattle.at_view.specs.Words.{number_of, head, is_there}
use Rattle.at_view.proofs.WordLaws.{inside}
use Rattle.at_core.specs.HeadPlays.{OpensHead}
use Rattle.at_core.specs.HeadSteps.{head_opened}
use Rattle.at_core.specs.Rule.{Base}
use Rattle.at_core.specs.Steps.{copied_heads}
use Rattle.at_core.proofs.AllowedStores.{opens_head, held_row}
use Rattle.at_core.proofs.PassSteps.{pass_after}
use Rattle.at_core.proofs.heads.open_head.Goals as goal

pub store-requires : goal.store-requires
store-requires c =
    let o = c.args.o in
    let word : ℕ = c.args.head + 1 in
    let p = c.args.pass.now in
    let me = p.seat.me in
    let table = c.args.world.now.table.shared in
    let small : c.args.o < objects = omega arith in
    let there : IsTrue (is_there (head o)) = grind (arith, nat_tests, small) in
    let room : number_of (head o) < table.table_id.words = subst (λ (n : ℕ). number_of (head o) < n) (sym c.args.world.now.sized.0) (inside (head o) there) in
    let Q : ℕ → Type 0 = λ n. (n < table.table_id.words) × Allows (Base opening table.key) table.table_id.slots p.seat.id me n (λ _. word) (λ _. OpensHead (step table.table_id.slots n word 0 none) me word) in
    let is : word ≡ suc (copied_heads me.0 o) = (let e = c.requires.may.1 in omega (arith, e)) in
    let owed = subst Q (sym c.head.ensures) (room, opens_head opening table.key table.table_id.slots p.seat.id o word me p.live small c.requires.may.0 is) in
    (c.requires.of.table, owed.0, owed.1)

-- the pass after the step
opened : (c : goal.After-store) → c.store.new.seat.me ≡ (head_opened c.args.pass.now.seat.me.0 c.args.o, c.args.pass.now.seat.me.1)
opened c = let small : c.args.o < objects = omega arith in (c.store.ensures.2 c.args.o small c.head.ensures).1

pub invariant_of-pass : goal.invariant_of-pass
invariant_of-pass c =
    let p = c.args.pass.now in
    let v = p.seat.me.0 in
    let f = pass_after p (head_opened v c.args.o) p.online c.store.new.seat.me (opened c) (record { live = refl; number = refl; turned = p.turned; holds = λ l. held_row l c.args.o _ _ v }) in
    record { live = f.live; numbered = f.numbered; turned = f.turned; listed = f.listed; once = f.once; within = f.within; right = f.right }
