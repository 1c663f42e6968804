use Rattle.std.proofs.Common.{◌≡◌, ◌+◌, ◌%◌, ◌<◌, ◌≤◌, length}
use Rattle.ttx_monitor.specs.Starting.{Misfits}
use Rattle.ttx_monitor.proofs.feed_start.misfits_below.Given as goal

abbrev pub invariant-loop-n : goal.invariant-loop-n
invariant-loop-n l = record {
  below : l.misfits < l.limit;
  few : l.misfits ≤ l.n;
  at : l.at ≡ (l.start + l.n) % length l.slots;
  counted : Misfits l.slots l.head l.start l.n l.misfits;
}
