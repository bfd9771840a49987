use Rattle.std.proofs.Common.{◌≡◌, ◌≤◌, length, map, take, vec_len, vec_capacity, string_bytes}
use Rattle.at_script.specs.Meanings.{now_of}
use Rattle.at_script.proofs.reader.owned.Given as goal

-- the texts so far, and room for the others
abbrev pub invariant-loop-text : goal.invariant-loop-text
invariant-loop-text l = record {
  same : map string_bytes l.owned.items ≡ map now_of (take l.text-index l.texts);
  count : vec_len l.owned ≡ l.text-index;
  room : length l.texts ≤ vec_capacity l.owned;
}
