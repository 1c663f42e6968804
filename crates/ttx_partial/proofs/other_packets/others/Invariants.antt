use Rattle.std.proofs.Common.{◌≡◌, ◌≤◌}
use Rattle.ttx_partial.specs.Others.{others_to}
use Rattle.ttx_partial.proofs.other_packets.others.Given as goal

abbrev pub invariant-loop-i : goal.invariant-loop-i
invariant-loop-i l = record {
  count : l.count ≡ others_to l.slots l.i;
  few : l.count ≤ l.i;
}
