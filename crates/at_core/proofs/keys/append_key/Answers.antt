use Rattle.std.proofs.Common.{◌≡◌, ℕ, suc, ◌+◌, ◌<◌, IsTrue, sym, subst, refl, arith}
use Rattle.std.proofs.lemmas.Bool.Decides.{nat_tests}
use mathlib.Core.Option.{none}
use Rattle.atomic_table.specs.Table.{Allows, step}
use Rattle.at_model.specs.World.{opening}
use Rattle.at_view.specs.Words.{number_of, key, is_there}
use Rattle.at_view.proofs.WordLaws.{inside}
use Rattle.at_core.specs.HeadPlays.{AppendsKey}
use Rattle.at_core.specs.HeadSteps.{key_appended}
use Rattle.at_core.specs.Rule.{Base}
use Rattle.at_core.proofs.AllowedStores.{appends_key, held_appended}
use Rattle.at_core.proofs.PassSteps.{pass_after, same_after}
use Rattle.at_core.proofs.keys.append_key.Goals as goal

pub store-requires : goal.store-requires
store-requires c =
    let class = c.args.c in
    let i = c.args.i in
    let n = c.args.n in
    let word : ℕ = c.from-word.result + 1 in
    let p = c.args.pass.now in
    let me = p.seat.me in
    let table = c.args.world.now.table.shared in
    let may = c.requires.may in
    let small = may.class in
    let few = may.index in
    let there : IsTrue (is_there (key class i)) = grind (arith, nat_tests, small, few) in
    let room : number_of (key class i) < table.table_id.words = subst (λ (n : ℕ). number_of (key class i) < n) (sym c.args.world.now.sized.0) (inside (key class i) there) in
    let Q : ℕ → Type 0 = λ n. (n < table.table_id.words) × Allows (Base opening table.key) table.table_id.slots p.seat.id me n (λ _. word) (λ _. AppendsKey (step table.table_id.slots n word 0 none) me word) in
    let is : word ≡ suc n = (let f = c.from-word.ensures in let e = c.number.ensures.same in omega (arith, f, e)) in
    let owed = subst Q (sym c.key.ensures) (room, appends_key opening table.key table.table_id.slots p.seat.id class i n word me p.live may is) in
    (c.requires.of.table, owed.0, owed.1)

-- the pass after the step
appended : (c : goal.After-store) → c.store.new.seat.me ≡ (key_appended c.args.pass.now.seat.me.0 c.args.c c.args.i c.args.n, c.args.pass.now.seat.me.1)
appended c = let f = c.from-word.ensures in let e = c.number.ensures.same in c.store.ensures.2 c.args.c c.args.i c.args.n c.requires.may.class c.requires.may.index c.key.ensures (omega (arith, f, e))

pub invariant_of-pass : goal.invariant_of-pass
invariant_of-pass c =
    let p = c.args.pass.now in
    let v = p.seat.me.0 in
    let f = pass_after p (key_appended v c.args.c c.args.i c.args.n) p.online c.store.new.seat.me (appended c) (record { live = refl; number = refl; turned = p.turned; holds = λ l. held_appended l v _ _ _ }) in
    record { live = f.live; numbered = f.numbered; turned = f.turned; listed = f.listed; once = f.once; within = f.within; right = f.right }

pub returns-clause-same : goal.returns-clause-same
returns-clause-same c =
    let f = c.from-word.ensures in
    let e = c.number.ensures.same in
    same_after c.args.pass.now _ c.args.world.now (key_appended c.args.pass.now.seat.me.0 c.args.c c.args.i c.args.n) c.store.ensures.0 c.store.ensures.1 refl refl
    (c.store.ensures.2 c.args.c c.args.i c.args.n c.requires.may.class c.requires.may.index c.key.ensures (omega (arith, f, e))) refl c.requires.of
