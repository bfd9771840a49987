use Rattle.std.proofs.Common.{◌≡◌, ◌≤◌, length, ◌+◌, ◌-◌, ◌++◌}
use Rattle.std.specs.Prelude.{option_map}
use Rattle.at_value.specs.Widths.{most_bases, base_bits}
use Rattle.at_value.specs.ReadingOps.{classes_of_word}
use Rattle.at_value.proofs.packing.read_row.Given as goal

-- the bases that were read, before those that are left, are all
abbrev pub invariant-loop : goal.invariant-loop
invariant-loop l = record {
  few : length l.bases + (l.count - l.counter) ≤ most_bases;
  all : option_map (λ more. l.bases ++ more) (classes_of_word base_bits (l.count - l.counter) l.left) ≡ option_map (λ row. l.fn.bases ++ row) (classes_of_word base_bits l.count l.word);
}
