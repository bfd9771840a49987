use Rattle.std.proofs.Common.{ℕ, ◌≤◌, ◌<◌, [], get_or, length}
use Rattle.at_world.specs.Plain.{lists_of}
use Rattle.at_world.proofs.plain.orders.longest_len.Given as goal

-- the lists so far are no longer
abbrev pub invariant-loop-order : goal.invariant-loop-order
invariant-loop-order l = (i : ℕ) → i < l.order-index → length (get_or (lists_of l.orders) i []) ≤ l.longest
