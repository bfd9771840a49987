use Rattle.std.proofs.Common.{◌≡◌}
use Rattle.at_core.proofs.HandLemmas.{rotated}
use Rattle.at_core.proofs.hand.turn_by.Given as goal

-- so many slots have gone behind the others
abbrev pub invariant-loop : goal.invariant-loop
invariant-loop l = (l.seat.table_id ≡ l.initial.seat.table_id) × (l.seat.id ≡ l.initial.seat.id) × (l.seat.me ≡ (l.initial.seat.me.0, rotated l.counter l.initial.seat.me.1))
