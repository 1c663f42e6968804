use Rattle.std.proofs.Common.{◌≡◌, drop, false}
use Rattle.ttx_check.specs.PageWarnings.{has_box_after}
use Rattle.ttx_check.proofs.page_warnings.has_box.Given as goal

abbrev pub invariant-loop-code : goal.invariant-loop-code
invariant-loop-code l = has_box_after l.started (drop l.code-index l.row) ≡ has_box_after false l.row
