use Rattle.std.proofs.Common.{◌≡◌, ◌<◌, ℕ, List, IsTrue, sym, ap, subst, refl, arith}
use Rattle.std.proofs.lemmas.Bool.Decides.{nat_tests}
use mathlib.Core.Option.{none}
use Rattle.atomic_table.specs.Table.{Allows, step}
use Rattle.at_value.specs.Widths.{objects}
use Rattle.at_value.specs.declared.operation.Op as op
use Rattle.at_model.specs.World.{opening}
use Rattle.at_view.specs.Words.{number_of, head, is_there}
use Rattle.at_view.proofs.WordLaws.{inside}
use Rattle.at_core.specs.HeadPlays.{SawHead, LoadsHead}
use Rattle.at_core.specs.HeadSteps.{head_loaded}
use Rattle.at_core.specs.Rule.{Base}
use Rattle.at_core.proofs.AllowedHeads.{loads_head}
use Rattle.at_core.proofs.QuietSteps.{head_quiet, holds_quiet}
use Rattle.at_core.proofs.PassSteps.{pass_after, same_after}
use Rattle.at_core.proofs.heads.load_head.Goals as goal

pub load-requires : goal.load-requires
load-requires c =
    let o = c.args.o in
    let p = c.args.pass.now in
    let me = p.seat.me in
    let table = c.args.world.now.table.shared in
    let small : c.args.o < objects = omega arith in
    let there : IsTrue (is_there (head o)) = grind (arith, nat_tests, small) in
    let room : number_of (head o) < table.table_id.words = subst (λ (n : ℕ). number_of (head o) < n) (sym c.args.world.now.sized.0) (inside (head o) there) in
    let Q : ℕ → Type 0 = λ n. (n < table.table_id.words) × Allows (Base opening table.key) table.table_id.slots p.seat.id me n (λ k. k) (LoadsHead opening (step table.table_id.slots n 0 0 none) me) in
    let owed = subst Q (sym c.head.ensures) (room, loads_head opening table.key table.table_id.slots p.seat.id o me p.live small) in
    (c.requires.of.table, owed.0, owed.1)

-- what the load told
told : (c : goal.After-load) → (at : List op.Op) × (keys_are : ℕ → ℕ → ℕ)
    × (c.load.new.seat.me ≡ (head_loaded c.args.pass.now.seat.me.0 c.args.o at c.load.result, c.args.pass.now.seat.me.1)) × SawHead opening c.args.pass.now.seat.me.0 c.args.o c.load.result at keys_are
told c = let small : c.args.o < objects = omega arith in c.load.ensures.2 c.args.o small c.head.ensures

pub invariant_of-pass : goal.invariant_of-pass
invariant_of-pass c =
    let p = c.args.pass.now in
    let v = p.seat.me.0 in
    let f = pass_after p (head_loaded c.args.pass.now.seat.me.0 c.args.o (told c).0 c.load.result) p.online c.load.new.seat.me (told c).2 (record { live = refl; number = refl; turned = p.turned; holds = holds_quiet v (head_loaded c.args.pass.now.seat.me.0 c.args.o (told c).0 c.load.result) (head_quiet v c.args.o (told c).0 c.load.result) }) in
    record { live = f.live; numbered = f.numbered; turned = f.turned; listed = f.listed; once = f.once; within = f.within; right = f.right }

pub returns-clause-same : goal.returns-clause-same
returns-clause-same c =
    let small : c.args.o < objects = omega arith in
    let t = c.load.ensures.2 c.args.o small c.head.ensures in
    same_after c.args.pass.now _ c.args.world.now (head_loaded c.args.pass.now.seat.me.0 c.args.o t.0 c.load.result) c.load.ensures.0 c.load.ensures.1 refl refl t.2 refl c.requires.of

pub returns-clause-loaded : goal.returns-clause-loaded
returns-clause-loaded c =
    let small : c.args.o < objects = omega arith in
    let t = c.load.ensures.2 c.args.o small c.head.ensures in
    (t.0, t.1, ap (λ m. m.0) t.2, t.3)
