use Rattle.std.proofs.Common.{◌≡◌, ◌≤◌, length, ◌+◌, ◌++◌, drop}
use Rattle.std.specs.Prelude.{option_map}
use Rattle.at_value.specs.Widths.{most_bases, base_bits, bases_a_word}
use Rattle.at_value.specs.ReadingOps.{classes_of_words}
use Rattle.at_value.proofs.packing.bases_of.Given as goal

-- the bases that were read, before those that are left, are all
abbrev pub invariant-loop-word : goal.invariant-loop-word
invariant-loop-word l = record {
  few : length l.bases + l.left ≤ most_bases;
  all : option_map (λ more. l.bases ++ more) (classes_of_words base_bits bases_a_word l.left (drop l.word-index l.words)) ≡ classes_of_words base_bits bases_a_word l.count l.words;
}
