use Rattle.std.proofs.Common.{◌≡◌, ◌+◌, ◌*◌, ◌≤◌, ◌-◌, take, vec_len, vec_capacity}
use Rattle.std.specs.Io.KnownBytes.{prepend_known}
use Rattle.at_source.proofs.whole.read_all.Given as goal

abbrev pub invariant-loop-filled : goal.invariant-loop-filled
invariant-loop-filled g l =
    let left = g.S.Source.left in
    let faults = g.S.Source.faults in
    record {
      within : l.filled ≤ vec_len l.bytes;
      bound : vec_capacity l.bytes ≤ l.most;
      room : vec_capacity l.bytes ≤ 8192 + 2 * l.filled;
      given : left l.fn.source ≡ prepend_known (take l.filled l.bytes.items) (left l.source);
      no_fault : faults l.source ≡ faults l.fn.source;
    }

abbrev pub decreases-loop-filled : goal.decreases-loop-filled
decreases-loop-filled g l = l.most - l.filled
