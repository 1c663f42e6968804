use Rattle.std.proofs.Common.{◌≡◌, ◌≤◌, drop, length}
use Rattle.ttx_failure.specs.Unlike.{unlike_cells}
use Rattle.ttx_failure.proofs.unlike.unlike_cells.Given as goal

abbrev pub invariant-loop-i : goal.invariant-loop-i
invariant-loop-i l = unlike_cells (drop l.i l.shown) (drop l.i l.own) ≡ unlike_cells l.shown l.own
