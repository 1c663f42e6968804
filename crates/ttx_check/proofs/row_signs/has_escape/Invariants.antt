use Rattle.std.proofs.Common.{◌≡◌, drop}
use Rattle.ttx_check.specs.RowSigns.{has_escape}
use Rattle.ttx_check.proofs.row_signs.has_escape.Given as goal

abbrev pub invariant-loop-column : goal.invariant-loop-column
invariant-loop-column l = has_escape (drop l.column l.row) ≡ has_escape l.row
