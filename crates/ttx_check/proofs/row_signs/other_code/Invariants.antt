use Rattle.std.proofs.Common.{◌≡◌, drop, false}
use Rattle.ttx_check.specs.RowSigns.{other_from}
use Rattle.ttx_check.proofs.row_signs.other_code.Given as goal

abbrev pub invariant-loop-column : goal.invariant-loop-column
invariant-loop-column l = other_from l.option l.mosaic l.column (drop l.column l.row) ≡ other_from l.option false 0 l.row
