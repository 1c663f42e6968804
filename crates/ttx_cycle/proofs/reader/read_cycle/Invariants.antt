use Rattle.std.proofs.Common.{◌≡◌, ◌+◌, ◌*◌, ◌≤◌, length, vec_len}
use Rattle.std.specs.Io.KnownBytes.{Consumes}
use Rattle.ttx_cycle.specs.Files.{file_of}
use Rattle.ttx_cycle.proofs.reader.read_cycle.Given as goal

abbrev pub invariant-loop-i : goal.invariant-loop-i
invariant-loop-i g l = record {
  size : length l.block ≡ 1344;
  count : vec_len l.slots ≡ 32 * l.i;
  bytes : Consumes (g.R.Read.remaining l.initial.reader.inner) (g.R.Read.remaining l.reader.inner) (file_of l.slots.items);
  long : length (file_of l.slots.items) ≡ 1344 * l.i;
  calls : l.reader.calls ≤ l.initial.reader.calls + 1344 * l.i;
  faults : l.reader.faults ≡ l.initial.reader.faults;
}
