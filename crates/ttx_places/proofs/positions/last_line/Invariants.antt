use Rattle.std.proofs.Common.{◌≡◌, ◌≤◌, drop, length}
use Rattle.ttx_places.specs.Positions.{last_line}
use Rattle.ttx_places.proofs.LastLine.{choose}
use Rattle.ttx_places.proofs.positions.last_line.Given as goal

abbrev pub invariant-loop-index : goal.invariant-loop-index
invariant-loop-index l = record {
  within : l.start ≤ length l.text;
  line : choose (drop l.start l.text) (drop l.index l.text) ≡ last_line l.text;
}
