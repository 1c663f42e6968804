use Rattle.std.proofs.Common.{◌≡◌, drop, false}
use Rattle.ttx_check.specs.RowSigns.{is_open_after}
use Rattle.ttx_check.proofs.row_signs.is_open.Given as goal

abbrev pub invariant-loop-code : goal.invariant-loop-code
invariant-loop-code l = is_open_after l.boxed l.before (drop l.code-index l.row) ≡ is_open_after false 0 l.row
