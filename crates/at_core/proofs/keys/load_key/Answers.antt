use Rattle.std.proofs.Common.{◌≡◌, ◌<◌, ℕ, List, IsTrue, sym, ap, subst, refl, arith}
use Rattle.std.proofs.lemmas.Bool.Decides.{nat_tests}
use mathlib.Core.Option.{none}
use Rattle.atomic_table.specs.Table.{Allows, step}
use Rattle.at_value.specs.Widths.{classes}
use Rattle.at_model.specs.World.{opening}
use Rattle.at_view.specs.Words.{number_of, key, is_there}
use Rattle.at_view.proofs.WordLaws.{inside}
use Rattle.at_core.specs.HeadPlays.{SawKey, LoadsKey}
use Rattle.at_core.specs.HeadSteps.{key_loaded}
use Rattle.at_core.specs.Rule.{Base}
use Rattle.at_core.proofs.AllowedHeads.{loads_key}
use Rattle.at_core.proofs.QuietSteps.{key_quiet, holds_quiet}
use Rattle.at_core.proofs.PassSteps.{pass_after, same_after}
use Rattle.at_core.proofs.keys.load_key.Goals as goal

pub load-requires : goal.load-requires
load-requires c =
    let class = c.args.c in
    let i = c.args.i in
    let p = c.args.pass.now in
    let me = p.seat.me in
    let table = c.args.world.now.table.shared in
    let small : c.args.c < classes = omega arith in
    let few = c.requires.index in
    let there : IsTrue (is_there (key class i)) = grind (arith, nat_tests, small, few) in
    let room : number_of (key class i) < table.table_id.words = subst (λ (n : ℕ). number_of (key class i) < n) (sym c.args.world.now.sized.0) (inside (key class i) there) in
    let Q : ℕ → Type 0 = λ n. (n < table.table_id.words) × Allows (Base opening table.key) table.table_id.slots p.seat.id me n (λ k. k) (LoadsKey (step table.table_id.slots n 0 0 none) me) in
    let owed = subst Q (sym c.key.ensures) (room, loads_key opening table.key table.table_id.slots p.seat.id class i me p.live small few) in
    (c.requires.of.table, owed.0, owed.1)

-- what the load told
told : (c : goal.After-load) → (known : List ℕ)
    × (c.load.new.seat.me ≡ (key_loaded c.args.pass.now.seat.me.0 c.args.c c.args.i known c.load.result, c.args.pass.now.seat.me.1)) × SawKey c.args.pass.now.seat.me.0 c.args.c c.args.i c.load.result known
told c = let small : c.args.c < classes = omega arith in c.load.ensures.2 c.args.c c.args.i small c.requires.index c.key.ensures

pub invariant_of-pass : goal.invariant_of-pass
invariant_of-pass c =
    let p = c.args.pass.now in
    let v = p.seat.me.0 in
    let f = pass_after p (key_loaded c.args.pass.now.seat.me.0 c.args.c c.args.i (told c).0 c.load.result) p.online c.load.new.seat.me (told c).1 (record { live = refl; number = refl; turned = p.turned; holds = holds_quiet v (key_loaded c.args.pass.now.seat.me.0 c.args.c c.args.i (told c).0 c.load.result) (key_quiet v c.args.c c.args.i (told c).0 c.load.result) }) in
    record { live = f.live; numbered = f.numbered; turned = f.turned; listed = f.listed; once = f.once; within = f.within; right = f.right }

pub returns-clause-same : goal.returns-clause-same
returns-clause-same c =
    let small : c.args.c < classes = omega arith in
    let t = c.load.ensures.2 c.args.c c.args.i small c.requires.index c.key.ensures in
    same_after c.args.pass.now _ c.args.world.now (key_loaded c.args.pass.now.seat.me.0 c.args.c c.args.i t.0 c.load.result) c.load.ensures.0 c.load.ensures.1 refl refl t.1 refl c.requires.of

pub returns-clause-loaded : goal.returns-clause-loaded
returns-clause-loaded c =
    let small : c.args.c < classes = omega arith in
    let t = c.load.ensures.2 c.args.c c.args.i small c.requires.index c.key.ensures in
    (t.0, ap (λ m. m.0) t.1, t.2)
