use Rattle.std.proofs.Common.{◌≡◌, ◌≤◌, ◌+◌, drop}
use Rattle.ttx_failure.specs.Beside.{width}
use Rattle.ttx_failure.proofs.beside.width.Given as goal

abbrev pub invariant-loop-at : goal.invariant-loop-at
invariant-loop-at l = record {
  whole : l.count + width (drop l.at l.bytes) ≡ width l.bytes;
  few : l.count ≤ l.at;
}
