use Rattle.std.proofs.Common.{◌≡◌, ◌+◌, ◌-◌, ◌≤◌, length, take}
use Rattle.std.specs.Io.KnownBytes.{Appends}
use Rattle.ttx_cycle.proofs.writer.write_bytes.Given as goal

abbrev pub decreases-loop-written : goal.decreases-loop-written
decreases-loop-written g l = length l.bytes - l.written

abbrev pub invariant-loop-written : goal.invariant-loop-written
invariant-loop-written g l = record {
  within : l.written ≤ length l.bytes;
  sent : Appends (g.W.Write.contents l.initial.writer.inner) (g.W.Write.contents l.writer.inner) (take l.written l.bytes);
  calls : l.writer.calls ≤ l.initial.writer.calls + l.written;
  faults : l.writer.faults ≡ l.initial.writer.faults;
}
