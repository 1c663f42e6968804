use Rattle.std.proofs.Common.{◌≡◌, ◌≤◌, length, take}
use Rattle.std.specs.List.{filter}
use Rattle.ttx_witness.specs.wait_times.PageWaits.{is_near}
use Rattle.ttx_witness.proofs.wait_times.page_waits.near_ones.Given as goal

abbrev pub invariant-loop-i : goal.invariant-loop-i
invariant-loop-i l = record {
  counted : l.count ≡ length (filter (is_near l.lines) (take l.i l.sent));
  few : l.count ≤ l.i;
}
