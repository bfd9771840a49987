use Rattle.std.proofs.Common.{ℕ, ◌≡◌, get_or, ◌<◌, ◌≤◌, length, ◌-◌, ◌*◌, ◌^◌, drop}
use Rattle.at_value.specs.Widths.{classes, base_bits}
use Rattle.at_value.specs.Fields.{number_of}
use Rattle.at_value.specs.Packing.{row_fields}
use Rattle.at_value.proofs.packing.word_of_row.Given as goal

-- the bases from i on are in the word
abbrev pub invariant-loop-i : goal.invariant-loop-i
invariant-loop-i l = record {
  small : l.word < 2 ^ (base_bits * (length l.row - l.i));
  word : l.word ≡ number_of (row_fields base_bits (drop l.i l.row));
  classes : (j : ℕ) → l.i ≤ j → get_or l.row j 0 < classes;
}
