use Rattle.std.proofs.Common.{ℕ, ◌<◌, refl, sym, subst}
use Rattle.at_model.specs.World.{opening}
use Rattle.at_view.specs.Words.{number_of, global_sequence}
use Rattle.at_view.proofs.WordLaws.{inside}
use Rattle.at_core.specs.Steps.{global_loaded}
use Rattle.at_core.proofs.Allowed.{loads_global}
use Rattle.at_core.proofs.QuietSteps.{load_quiet, holds_quiet}
use Rattle.at_core.proofs.PassSteps.{pass_after}
use Rattle.at_core.proofs.sequences.load_global.Goals as goal

pub load-requires : goal.load-requires
load-requires c =
    let seat = c.args.pass.now.seat in
    let table = c.args.world.now.table.shared in
    let room : number_of global_sequence < table.table_id.words = subst (λ (n : ℕ). number_of global_sequence < n) (sym c.args.world.now.sized.0) (inside global_sequence refl) in
    (c.requires.of.table, room, loads_global opening table.key table.table_id.slots seat.id seat.me c.args.pass.now.live)

-- nothing has changed but what the pass knows of sequences and tags
pub invariant_of-pass : goal.invariant_of-pass
invariant_of-pass c =
    let p = c.args.pass.now in
    let v = p.seat.me.0 in
    let w = global_loaded v c.load.result in
    let f = pass_after p w p.online c.load.new.seat.me (c.load.ensures.2 refl).0 (record { live = refl; number = refl; turned = p.turned; holds = holds_quiet v w (load_quiet v c.load.result) }) in
    record { live = f.live; numbered = f.numbered; turned = f.turned; listed = f.listed; once = f.once; within = f.within; right = f.right }
