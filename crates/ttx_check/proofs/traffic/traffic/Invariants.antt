use Rattle.std.proofs.Common.{◌≡◌, ◌≤◌, ◌*◌, take}
use Rattle.std.specs.Prelude.{sum_by}
use Rattle.ttx_check.specs.Entries.{packets_of_magazine}
use Rattle.ttx_check.proofs.traffic.traffic.Given as goal

abbrev pub invariant-loop-entry : goal.invariant-loop-entry
invariant-loop-entry l = record {
  sum : l.sum ≡ sum_by (packets_of_magazine l.mag) (take l.entry-index l.entries);
  most : l.sum ≤ 4294967296 * l.entry-index;
}
