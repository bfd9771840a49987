use Rattle.std.proofs.Common.{◌≡◌, ◌+◌, ◌≤◌, length, IsTrue}
use Rattle.std.specs.List.{list_all}
use Rattle.at_script.specs.Limits as limits
use Rattle.at_script.specs.Lines.{lines_of, is_allowed}
use Rattle.at_script.specs.LineReading.{state_of, lines_read}
use Rattle.at_script.proofs.so_far.Reader.read_lines.Given as goal

-- what is left gives the answer; each line that was read has a byte at least; what is left of bytes that are allowed is so
abbrev pub invariant-loop-rest : goal.invariant-loop-rest
invariant-loop-rest l = record {
  answer : lines_read l.number (state_of l.self) (lines_of l.rest) ≡ lines_read 1 (state_of l.initial.self) (lines_of l.initial.rest);
  bytes : l.self.bytes + length l.rest ≡ length l.initial.rest;
  few : l.self.bytes ≤ limits.most_bytes;
  numbered : l.number ≤ l.self.bytes + 1;
  allowed : IsTrue l.allowed → IsTrue (list_all is_allowed l.rest);
}

abbrev pub decreases-loop-rest : goal.decreases-loop-rest
decreases-loop-rest l = length l.rest
