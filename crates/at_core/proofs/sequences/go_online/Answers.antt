use Rattle.std.proofs.Common.{◌≡◌, ℕ, ◌<◌, true, refl, sym, ap, subst, ◌∙◌, IsTrue, arith}
use Rattle.std.proofs.lemmas.Bool.Decides.{nat_tests}
use mathlib.Core.Option.{none}
use Rattle.atomic_table.specs.Table.{Allows, step}
use Rattle.at_model.specs.World.{opening}
use Rattle.at_view.specs.Words.{number_of, own_sequence, is_there}
use Rattle.at_view.proofs.WordLaws.{inside}
use Rattle.at_core.specs.Rule.{Base}
use Rattle.at_core.specs.Plays.{GoesOnline}
use Rattle.at_core.specs.Steps.{gone_online}
use Rattle.at_core.proofs.Allowed.{turns_online}
use Rattle.at_core.proofs.QuietSteps.{online_quiet, holds_quiet}
use Rattle.at_core.proofs.PassSteps.{pass_after}
use Rattle.at_core.proofs.sequences.go_online.Goals as goal

pub store-requires : goal.store-requires
store-requires c =
    let p = c.args.pass.now in
    let me = p.seat.me in
    let table = c.args.world.now.table.shared in
    let small = p.numbered.1 in
    let there : IsTrue (is_there (own_sequence p.number)) = grind (arith, nat_tests, small) in
    let room : number_of (own_sequence p.number) < table.table_id.words = subst (λ (n : ℕ). number_of (own_sequence p.number) < n) (sym c.args.world.now.sized.0) (inside (own_sequence p.number) there) in
    let Q : ℕ × ℕ → Type 0 = λ q. Allows (Base opening table.key) table.table_id.slots p.seat.id me q.0 (λ _. q.1) (λ _. GoesOnline (step table.table_id.slots q.0 q.1 0 none) me 0) in
    let word : number_of (own_sequence me.0.who.number) ≡ c.own_sequence.result = ap (λ (n : ℕ). number_of (own_sequence n)) p.numbered.0 ∙ sym c.own_sequence.ensures in (
      c.requires.of.table,
      subst (λ (n : ℕ). n < table.table_id.words) (sym c.own_sequence.ensures) room,
      subst Q (λ i. (word i, sym c.requires.may.1 i)) (turns_online opening table.key table.table_id.slots p.seat.id me p.live c.requires.may.0.loaded),
    )

-- nothing has changed but what the pass knows of sequences and tags
pub invariant_of-pass : goal.invariant_of-pass
invariant_of-pass c =
    let p = c.args.pass.now in
    let v = p.seat.me.0 in
    let w = gone_online v in
    let f = pass_after p w true c.store.new.seat.me (c.store.ensures.2 (c.own_sequence.ensures ∙ ap (λ (n : ℕ). number_of (own_sequence n)) (sym p.numbered.0))).1 (record { live = refl; number = refl; turned = refl; holds = holds_quiet v w (online_quiet v) }) in
    record { live = f.live; numbered = f.numbered; turned = f.turned; listed = f.listed; once = f.once; within = f.within; right = f.right }
