use Rattle.std.proofs.Common.{◌≡◌, ◌≤◌, ◌<◌, ℕ, [], None, get_or}
use Rattle.at_types.specs.Renewing.{replaced_order}
use Rattle.at_types.proofs.classes.rebasing.replace_orders.Given as goal

-- the orders so far are replaced
abbrev pub invariant-loop-i : goal.invariant-loop-i
invariant-loop-i l = record {
  before : (d : ℕ) → d < l.i → get_or l.orders d [] ≡ replaced_order (get_or l.initial.renewed d None) (get_or l.initial.orders d []);
  after : (d : ℕ) → l.i ≤ d → get_or l.orders d [] ≡ get_or l.initial.orders d [];
  renewed : (d : ℕ) → l.i ≤ d → get_or l.renewed d None ≡ get_or l.initial.renewed d None;
}
