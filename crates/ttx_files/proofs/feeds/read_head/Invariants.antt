use Rattle.std.proofs.Common.{◌≡◌, length}
use Rattle.std.specs.Io.KnownBytes.{Consumes}
use Rattle.ttx_cycle.specs.Files.{file_of}
use Rattle.ttx_files.proofs.feeds.read_head.Given as goal

abbrev pub invariant-loop-i : goal.invariant-loop-i
invariant-loop-i g l = record {
  size : length l.slot ≡ 42;
  count : length l.slots.items ≡ l.i;
  bytes : Consumes (g.R.Read.remaining l.initial.feed.inner) (g.R.Read.remaining l.feed.inner) (file_of l.slots.items);
  faults : l.feed.faults ≡ l.initial.feed.faults;
}
