use Rattle.std.proofs.Common.{◌≡◌, ◌+◌, ◌-◌, ◌≤◌, length, take}
use Rattle.std.specs.Io.KnownBytes.{Consumes}
use Rattle.ttx_cycle.proofs.slot_bytes.fill.Given as goal

abbrev pub decreases-loop-at : goal.decreases-loop-at
decreases-loop-at g l = 42 - l.at

abbrev pub invariant-loop-at : goal.invariant-loop-at
invariant-loop-at g l = record {
  size : length l.slot ≡ 42;
  within : l.at ≤ 42;
  bytes : Consumes (g.R.Read.remaining l.initial.reader.inner) (g.R.Read.remaining l.reader.inner) (take l.at l.slot);
  calls : l.reader.calls ≤ l.initial.reader.calls + l.at;
  faults : l.reader.faults ≡ l.initial.reader.faults;
}
