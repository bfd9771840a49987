use Rattle.std.proofs.Common.{◌≡◌, ◌<◌, map, take, vec_capacity, vec_len}
use Rattle.std.specs.List.{All}
use Rattle.at_value.specs.Widths as widths
use Rattle.at_text.specs.Order.{keyed}
use Rattle.at_text.proofs.order.take_in.Given as goal

-- the pairs that were taken in so far
abbrev pub invariant-loop-i : goal.invariant-loop-i
invariant-loop-i l = record {
  entries : l.entries.items ≡ map (keyed l.keys) (take l.i l.own);
  count : vec_len l.entries ≡ l.i;
  capacity : vec_capacity l.entries ≡ widths.names;
  range : All (λ pair. pair.0 < widths.names) (take l.i l.own);
}
