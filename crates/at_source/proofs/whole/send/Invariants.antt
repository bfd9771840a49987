use Rattle.std.proofs.Common.{◌≡◌, ◌≤◌, ◌-◌, length, take}
use Rattle.std.specs.Io.KnownBytes.{append_known}
use Rattle.at_source.proofs.whole.send.Given as goal

abbrev pub invariant-loop-sent : goal.invariant-loop-sent
invariant-loop-sent g l =
    let written = g.K.Sink.written in
    let faults = g.K.Sink.faults in
    record {
      within : l.sent ≤ length l.bytes;
      prefix : written l.out ≡ append_known (written l.fn.out) (take l.sent l.bytes);
      no_fault : faults l.out ≡ faults l.fn.out;
    }

abbrev pub decreases-loop-sent : goal.decreases-loop-sent
decreases-loop-sent g l = length l.bytes - l.sent
