use Rattle.std.proofs.Common.{ℕ, ◌<◌, List, sym, ap, ◌∙◌, arith}
use Rattle.std.specs.Prelude.{is_some, slice_get, suc}
use Rattle.at_value.specs.Widths.{objects}
use Rattle.at_core.specs.Reads.{in_hand}
use Rattle.at_core.proofs.HandOf.{front_in}
use Rattle.at_core.proofs.world.Pass.front_lock.Goals as goal

pub lock_of-requires : goal.lock_of-requires
lock_of-requires c =
    let p = c.args.self.now in
    let slot : ℕ = c.in_ok-slot.slot.now in
    let front = front_in slot p.seat.me.1 (c.in_ok-slot.ensures.value ∙ ap (λ (ns : List ℕ). slice_get ns 0) (c.as_slice.ensures.value ∙ p.listed)) in
    let lt : slot < suc objects = p.within slot front.0 in
    omega arith

pub returns-clause-some : goal.returns-clause-some
returns-clause-some c =
    let p = c.args.self.now in
    let slot : ℕ = c.in_ok-slot.slot.now in
    let front = front_in slot p.seat.me.1 (c.in_ok-slot.ensures.value ∙ ap (λ (ns : List ℕ). slice_get ns 0) (c.as_slice.ensures.value ∙ p.listed)) in
    sym (p.right c.lock_of.result c.lock_of.ensures.lock) ∙ (ap (λ (n : ℕ). is_some (in_hand n p.seat.me.1)) c.lock_of.ensures.slot ∙ front.1)
