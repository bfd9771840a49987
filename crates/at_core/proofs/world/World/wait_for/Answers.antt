use Rattle.std.proofs.Common.{ℕ, ◌<◌, sym, subst}
use Rattle.at_view.specs.Words.{number_of}
use Rattle.at_view.proofs.WordLaws.{inside}
use Rattle.at_core.specs.Locks.{lock_word}
use Rattle.at_core.proofs.world.World.wait_for.Goals as goal

pub changes-requires : goal.changes-requires
changes-requires g c =
    let words = c.args.self.now.table.shared.table_id.words in
    let l = c.args.lock.now in
    subst (λ (n : ℕ). n < words) (sym c.word-word.ensures) (subst (λ (n : ℕ). number_of (lock_word l) < n) (sym c.args.self.now.sized.0) (inside (lock_word l) c.slot.ensures.lock))
