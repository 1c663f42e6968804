use Rattle.std.proofs.Common.{◌≡◌, ◌+◌, ◌-◌, ◌≤◌, length, take}
use Rattle.std.specs.Io.KnownBytes.{Consumes}
use Rattle.ttx_cycle.proofs.slot_bytes.fill_block.Given as goal

abbrev pub decreases-loop-at : goal.decreases-loop-at
decreases-loop-at g l = length l.initial.block - l.at

abbrev pub invariant-loop-at : goal.invariant-loop-at
invariant-loop-at g l = record {
  size : length l.block ≡ length l.initial.block;
  within : l.at ≤ length l.initial.block;
  bytes : Consumes (g.R.Read.remaining l.initial.reader.inner) (g.R.Read.remaining l.reader.inner) (take l.at l.block);
  calls : l.reader.calls ≤ l.initial.reader.calls + l.at;
  faults : l.reader.faults ≡ l.initial.reader.faults;
}
