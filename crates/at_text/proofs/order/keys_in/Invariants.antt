use Rattle.std.proofs.Common.{◌≡◌, length, vec_len}
use Rattle.at_value.specs.Widths as widths
use Rattle.at_text.specs.Order.{AreGiven}
use Rattle.at_text.proofs.order.keys_in.Given as goal

-- the keys that were given so far
abbrev pub invariant-loop-name : goal.invariant-loop-name
invariant-loop-name l = record {
  next : l.key ≡ l.name-index;
  room : vec_len l.keys ≡ widths.names;
  long : length l.keys.items ≡ widths.names;
  given : AreGiven l.name-index l.sorted l.keys.items;
}
