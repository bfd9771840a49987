use Rattle.std.proofs.Common.{◌<◌, All, ap, sym, subst, length, take, List, [], ℕ, Bor, arith}
use Rattle.at_c3.specs.Counts.{tail_numbers}
use Rattle.at_c3.specs.Slices.{contents}
use Rattle.at_c3.specs.Room.{count_room}
use Rattle.at_c3.proofs.RoomLemmas.{all_of_tail, tails_so_far}
use Rattle.at_c3.proofs.merging.count_tails.Goals as goal

pub returns-in_err-add_all-clause-room : goal.returns-in_err-add_all-clause-room
returns-in_err-add_all-clause-room c = λ none small fits.
    let slices = c.args.lists.now in
    let i = c.loop-list.list-index in
    let nothing : Bor (List ℕ) = record { ref_ptr = (0, 0); now = [] } in
    let IsSmall : List ℕ → Type 0 = λ list. All (λ n. n < count_room) list in
    let here : IsSmall c.tail_of.result.now = subst IsSmall (sym c.tail_of.ensures) (all_of_tail (λ n. n < count_room) slices i nothing c.loop-list-test.true small) in
    let so_far = tails_so_far slices i nothing c.loop-list-test.true in
    let len = ap length c.tail_of.ensures in
    let no = c.in_err-add_all.ensures.room (tail_numbers (contents (take i slices))) (c.loop-list.invariant none) here (omega (arith, so_far, len, fits)) in
    absurd (cc)
